-- Laws of changing an inode's attributes. Assumes nothing.
use Rattle.std.specs.Prelude.{Option, Some, None, Result, Ok, Err, ok_or}
use mathlib.Core.Path.{◌≡◌, refl, sym, ap, ◌∙◌}
use mathlib.Core.Bool.{Bool, true, false}
use mathlib.Core.List.{List}
use Prim.Native.Nat.{ℕ, ◌+◌, ◌*◌, ◌/◌, ◌%◌}
use native.Mathlib.Omega.{arith}
use Rattle.refusal.specs.declared.Refusal.{Refusal}
use Rattle.refusal.specs.declared.Refusal.TheVariants.{Damaged, ReadOnly}
use Rattle.store.specs.Store.{apply}
use Rattle.store.specs.Act.{Out, got, refused, Act, pure, store, ◌>>=◌, Left, leaves}
use Rattle.store.proofs.StoreLaws.{apply_all-none}
use Rattle.store.proofs.ActLaws.{leaves-refuse, leaves-pure, step_store}
use Rattle.volume.specs.declared.Geometry.{Geometry}
use Rattle.volume.specs.declared.Volume.{Volume}
use Rattle.sound.specs.Test.{taken_of}
use Rattle.inode.specs.declared.Inode.{Inode}
use Rattle.inode.specs.declared.InodeAttr.{InodeAttr}
use Rattle.inode.specs.declared.InodeType.{InodeType}
use Rattle.inode.specs.Shape.{type_of}
use Rattle.inode.specs.Kind.{kind_of, attr_of}
use Rattle.inode_record.specs.Record.{inode_of, inode_store}
use Rattle.inode_run.specs.declared.Spot.{Spot}
use Rattle.inode_run.specs.Find.{find_inode}
use Rattle.balloc.proofs.CallLaws.{when-unsound, when-read-only, when-taken}
use Rattle.inode_modify.specs.Modify.{changed, modify_at, modify_for, inode_modify, modified_out}
use Rattle.refusal.specs.Refusal.{damage}

pub changed-is : (v : Inode) (a : InodeAttr) (m : ℕ) → m ≡ v.mode / 4096 * 4096 + a.perm % 4096
    → record { mode = m; nlink = v.nlink; uid = a.uid; gid = a.gid; blksize = v.blksize; size = v.size; blocks = v.blocks; times = a.times; generation = v.generation; kernflags = v.kernflags; flags = a.flags; extsize = v.extsize; extb = v.extb; direct = v.direct; indirect = v.indirect; modrev = v.modrev; ignored = v.ignored; ckhash = v.ckhash; spare = v.spare } ≡ changed v a
unfolding changed
changed-is v a m e = rw e

modify_once : (geo : Geometry) (i at : ℕ) (k : InodeType) (a : InodeAttr) (img : List ℕ)
    → leaves (store (inode_store geo.order at (changed (inode_of geo.order at img) a)) >>= (λ _. pure (attr_of i k (changed (inode_of geo.order at img) a)))) img ≡ leaves (modify_at geo i at k a) img
unfolding modify_at leaves
modify_once geo i at k a img = refl

pub modify-left : (geo : Geometry) (i at : ℕ) (k : InodeType) (a : InodeAttr) (img : List ℕ) (old new : Inode) → old ≡ inode_of geo.order at img → new ≡ changed old a → (x : List ℕ) → x ≡ apply (inode_store geo.order at new) img
    → (r : InodeAttr) → r ≡ attr_of i k new → (x, got r) ≡ leaves (modify_at geo i at k a) img
modify-left geo i at k a img old new eo en x ex r er =
    let n : new ≡ changed (inode_of geo.order at img) a = en ∙ ap (λ (v : Inode). changed v a) eo in
    rw (er, ex, n)
    (leaves-pure (attr_of i k (changed (inode_of geo.order at img) a)) _
    ∙ step_store (inode_store geo.order at (changed (inode_of geo.order at img) a)) (λ _. pure (attr_of i k (changed (inode_of geo.order at img) a))) img
    ∙ modify_once geo i at k a img)

modify_no : (geo : Geometry) (i : ℕ) (a : InodeAttr) (img : List ℕ) (e : Refusal) → find_inode geo img i ≡ refused e → ◌≡◌ {A = Left InodeAttr} (img, refused e) (leaves (modify_for geo i a) img)
unfolding modify_for leaves
modify_no geo i a img e h = rw h (leaves-refuse e img)

modify_nameless : (geo : Geometry) (i : ℕ) (a : InodeAttr) (img : List ℕ) (s : Spot) → find_inode geo img i ≡ got s → kind_of (type_of s.shape.mode) ≡ None → ◌≡◌ {A = Left InodeAttr} (img, refused Damaged) (leaves (modify_for geo i a) img)
unfolding modify_for leaves
modify_nameless geo i a img s h q = rw (h, q) (leaves-refuse Damaged img)

modify_named : (geo : Geometry) (i : ℕ) (a : InodeAttr) (img : List ℕ) (s : Spot) → find_inode geo img i ≡ got s → (k : InodeType) → kind_of (type_of s.shape.mode) ≡ Some k → leaves (modify_at geo i s.at k a) img ≡ leaves (modify_for geo i a) img
unfolding modify_for leaves
modify_named geo i a img s h k q = rw (h, q)

module _ (vol : Volume) (i : ℕ) (a : InodeAttr) (img : List ℕ) where
  pub call-unsound : taken_of img ≡ Err damage → ◌≡◌ {A = Left InodeAttr} (img, refused Damaged) (leaves (inode_modify vol i a) img)
  unfolding inode_modify leaves
  call-unsound e = rw (when-unsound vol (λ geo. modify_for geo i a) img e, apply_all-none img)

  module _ (geo : Geometry) (t : taken_of img ≡ Ok geo) where
    pub call-read-only : vol.writable ≡ false → ◌≡◌ {A = Left InodeAttr} (img, refused ReadOnly) (leaves (inode_modify vol i a) img)
    unfolding inode_modify leaves
    call-read-only w = rw (when-read-only vol (λ geo. modify_for geo i a) img geo t w, apply_all-none img)

    module _ (w : vol.writable ≡ true) where
      taken : leaves (modify_for geo i a) img ≡ leaves (inode_modify vol i a) img
      unfolding inode_modify leaves
      taken = rw (when-taken vol (λ geo. modify_for geo i a) img geo t w)

      pub call-no : {e : Refusal} → find_inode geo img i ≡ refused e → ◌≡◌ {A = Left InodeAttr} (img, refused e) (leaves (inode_modify vol i a) img)
      call-no {e} h = modify_no geo i a img e h ∙ taken

      module _ (s : Spot) (h : find_inode geo img i ≡ got s) where
        pub call-nameless : kind_of (type_of s.shape.mode) ≡ None → ◌≡◌ {A = Left InodeAttr} (img, refused Damaged) (leaves (inode_modify vol i a) img)
        call-nameless q = modify_nameless geo i a img s h q ∙ taken

        pub call-named : (k : InodeType) → kind_of (type_of s.shape.mode) ≡ Some k → leaves (modify_at geo i s.at k a) img ≡ leaves (inode_modify vol i a) img
        call-named k q = modify_named geo i a img s h k q ∙ taken

-- answers that meet the promise coincide
pub modified_same : (a b : Result InodeAttr Refusal) → modified_out a ≡ modified_out b → a ≡ b
modified_same (Ok a) (Ok b) e = cc
modified_same (Ok a) (Err f) e = absurd (let z : ◌≡◌ {A = ℕ} 0 1 = cc in let y : ⊥ = omega arith in y)
modified_same (Err f) (Ok b) e = absurd (let z : ◌≡◌ {A = ℕ} 0 1 = cc in let y : ⊥ = omega arith in y)
modified_same (Err e) (Err f) q = cc

-- an error that stands in for what is not there
pub none_or : {T E : Type 0} (o : Option T) (e d : E) → Err e ≡ ok_or o d → (o ≡ None) × (e ≡ d)
none_or None e d q = (refl, cc)
none_or (Some x) e d q = absurd (let z : ◌≡◌ {A = ℕ} 0 1 = cc in let y : ⊥ = omega arith in y)
