-- The record is `struct ufs2_dinode` of FreeBSD's dinode.h: each number is read and written where the struct has it. Assumes nothing.
use mathlib.Core.Path.{◌≡◌, refl, ap, ◌∙◌}
use mathlib.Core.List.{List, [], ◌∷◌, ◌++◌}
use mathlib.Core.Option.{Option, none, some}
use Prim.Native.Nat.{ℕ, ◌+◌}
use native.Mathlib.Omega.{arith}
use lib.ListN.{get_or}
use Rattle.field.specs.Field.{num, put_num}
use Rattle.field.specs.declared.Order.{Order}
use Rattle.headers.specs.Layout.{Designator, member, ◌!◌, Placed, placed}
use Rattle.headers.specs.Dinode.{ufs2_dinode}
use Rattle.headers.specs.Read.{put_at, field_at, put_field}
use Rattle.store.specs.Store.{apply}
use Rattle.inode.specs.declared.Inode.{Inode}
use Rattle.inode.specs.Shape.{address_at}
use Rattle.inode.specs.Places.{extb_at}
use Rattle.inode.proofs.HeaderLaws.{dinode, address-direct-header, address-indirect-header, extb-header}
use Rattle.inode_record.specs.Record.{listed, spare_at, times_of, inode_of, Slot, holds, slots, written, inode_store}
use Rattle.inode_record.proofs.SlotLaws.{listed-same, apply-slot, apply-slots-none}

-- ---- reading

module _ (o : Order) (at : ℕ) (img : List ℕ) where
  spare-header : (j : ℕ) → spare_at o at j img ≡ dinode o at img (member "di_spare" ! j)
  unfolding spare_at field_at
  spare-header j = ap (λ (x : ℕ). num o 4 x img) (omega arith)

  indirect-header : listed (λ k. address_at o at k img) 12 3 ≡ listed (λ j. dinode o at img (member "di_ib" ! j)) 0 3
  unfolding listed
  indirect-header = λ i. address-indirect-header o at img 0 i ∷ address-indirect-header o at img 1 i ∷ address-indirect-header o at img 2 i ∷ []

  pub times-header : times_of o at img
      ≡ record {
        atime = dinode o at img (member "di_atime");
        mtime = dinode o at img (member "di_mtime");
        ctime = dinode o at img (member "di_ctime");
        birthtime = dinode o at img (member "di_birthtime");
        mtimensec = dinode o at img (member "di_mtimensec");
        atimensec = dinode o at img (member "di_atimensec");
        ctimensec = dinode o at img (member "di_ctimensec");
        birthnsec = dinode o at img (member "di_birthnsec");
      }
  unfolding times_of field_at
  times-header = refl

  pub inode-header : inode_of o at img
      ≡ record {
        mode = dinode o at img (member "di_mode");
        nlink = dinode o at img (member "di_nlink");
        uid = dinode o at img (member "di_uid");
        gid = dinode o at img (member "di_gid");
        blksize = dinode o at img (member "di_blksize");
        size = dinode o at img (member "di_size");
        blocks = dinode o at img (member "di_blocks");
        times = times_of o at img;
        generation = dinode o at img (member "di_gen");
        kernflags = dinode o at img (member "di_kernflags");
        flags = dinode o at img (member "di_flags");
        extsize = dinode o at img (member "di_extsize");
        extb = listed (λ j. dinode o at img (member "di_extb" ! j)) 0 2;
        direct = listed (λ k. dinode o at img (member "di_db" ! k)) 0 12;
        indirect = listed (λ j. dinode o at img (member "di_ib" ! j)) 0 3;
        modrev = dinode o at img (member "di_modrev");
        ignored = dinode o at img (member "di_freelink");
        ckhash = dinode o at img (member "di_ckhash");
        spare = listed (λ j. dinode o at img (member "di_spare" ! j)) 0 2;
      }
  unfolding inode_of field_at
  inode-header =
      λ i. record {
        mode = num o 2 (at + 0) img;
        nlink = num o 2 (at + 2) img;
        uid = num o 4 (at + 4) img;
        gid = num o 4 (at + 8) img;
        blksize = num o 4 (at + 12) img;
        size = num o 8 (at + 16) img;
        blocks = num o 8 (at + 24) img;
        times = times_of o at img;
        generation = num o 4 (at + 80) img;
        kernflags = num o 4 (at + 84) img;
        flags = num o 4 (at + 88) img;
        extsize = num o 4 (at + 92) img;
        extb = listed-same (λ j. extb_at o at j img) (λ j. dinode o at img (member "di_extb" ! j)) 0 2 (λ j l r. extb-header o at img j) i;
        direct = listed-same (λ k. address_at o at k img) (λ k. dinode o at img (member "di_db" ! k)) 0 12 (λ k l r. address-direct-header o at img k) i;
        indirect = indirect-header i;
        modrev = num o 8 (at + 232) img;
        ignored = num o 4 (at + 240) img;
        ckhash = num o 4 (at + 244) img;
        spare = listed-same (λ j. spare_at o at j img) (λ j. dinode o at img (member "di_spare" ! j)) 0 2 (λ j l r. spare-header j) i;
      }

-- ---- writing

-- a member of the record, and the number that it is to be
pub record Named : Type 0 where
  pub name : Designator
  pub value : ℕ

infix 30 ◌is◌
abbrev ◌is◌ : Designator → ℕ → Named
◌is◌ d v = record { name = d; value = v }

-- the members written one after another
abbrev pub put_members : Order → ℕ → List Named → List ℕ → List ℕ
put_members o at [] img = img
put_members o at (m ∷ ms) img = put_members o at ms (put_field o ufs2_dinode m.name at m.value img)

-- every member of the struct
abbrev pub inode_members : Inode → List Named
inode_members v =
    (member "di_mode" is v.mode)
    ∷ (member "di_nlink" is v.nlink)
    ∷ (member "di_uid" is v.uid)
    ∷ (member "di_gid" is v.gid)
    ∷ (member "di_blksize" is v.blksize)
    ∷ (member "di_size" is v.size)
    ∷ (member "di_blocks" is v.blocks)
    ∷ (member "di_atime" is v.times.atime)
    ∷ (member "di_mtime" is v.times.mtime)
    ∷ (member "di_ctime" is v.times.ctime)
    ∷ (member "di_birthtime" is v.times.birthtime)
    ∷ (member "di_mtimensec" is v.times.mtimensec)
    ∷ (member "di_atimensec" is v.times.atimensec)
    ∷ (member "di_ctimensec" is v.times.ctimensec)
    ∷ (member "di_birthnsec" is v.times.birthnsec)
    ∷ (member "di_gen" is v.generation)
    ∷ (member "di_kernflags" is v.kernflags)
    ∷ (member "di_flags" is v.flags)
    ∷ (member "di_extsize" is v.extsize)
    ∷ listed (λ j. member "di_extb" ! j is get_or v.extb j 0) 0 2
    ++ listed (λ k. member "di_db" ! k is get_or v.direct k 0) 0 12
    ++ listed (λ j. member "di_ib" ! j is get_or v.indirect j 0) 0 3
    ++ (member "di_modrev" is v.modrev)
    ∷ (member "di_freelink" is v.ignored)
    ∷ (member "di_ckhash" is v.ckhash)
    ∷ listed (λ j. member "di_spare" ! j is get_or v.spare j 0) 0 2

-- where the struct has a member; a name that is not there has no bytes
abbrev slot_of : Option Placed → ℕ → Slot
slot_of none v = holds 0 0 v
slot_of (some p) v = holds p.at p.width v

abbrev slots_of : List Named → List Slot
slots_of [] = []
slots_of (m ∷ ms) = slot_of (placed ufs2_dinode m.name) m.value ∷ slots_of ms

slots_header : (v : Inode) → slots v ≡ slots_of (inode_members v)
unfolding slots listed placed ufs2_dinode
slots_header v = refl

put-slot : (o : Order) (at : ℕ) (m : Option Placed) (v : ℕ) (img : List ℕ) → put_num o (slot_of m v).width (at + (slot_of m v).place) (slot_of m v).value img ≡ put_at o m at v img
unfolding put_at
put-slot o at none v img = ap (λ (x : ℕ). put_num o 0 x v img) (omega arith)
put-slot o at (some p) v img = refl

put-member : (o : Order) (at : ℕ) (d : Designator) (v : ℕ) (img : List ℕ) → put_num o (slot_of (placed ufs2_dinode d) v).width (at + (slot_of (placed ufs2_dinode d) v).place) (slot_of (placed ufs2_dinode d) v).value img ≡ put_field o ufs2_dinode d at v img
unfolding put_field
put-member o at d v img = put-slot o at (placed ufs2_dinode d) v img

put-slots : (o : Order) (at : ℕ) (ms : List Named) (img : List ℕ) → apply (written o at (slots_of ms)) img ≡ put_members o at ms img
put-slots o at [] img = apply-slots-none o at img
put-slots o at (m ∷ ms) img =
    apply-slot o at (slot_of (placed ufs2_dinode m.name) m.value) (slots_of ms) img
    ∙ ap (apply (written o at (slots_of ms))) (put-member o at m.name m.value img)
    ∙ put-slots o at ms (put_field o ufs2_dinode m.name at m.value img)

-- the record's store writes every member of the struct, each where it stands
pub inode-store_header : (o : Order) (at : ℕ) (v : Inode) (img : List ℕ) → apply (inode_store o at v) img ≡ put_members o at (inode_members v) img
unfolding inode_store
inode-store_header o at v img = ap (λ (ss : List Slot). apply (written o at ss) img) (slots_header v) ∙ put-slots o at (inode_members v) img
