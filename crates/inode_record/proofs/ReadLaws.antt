-- What is read of a record: it fits, it stays where nothing is written, and its parts are those that are read alone. Assumes nothing.
use mathlib.Core.Path.{◌≡◌, refl, sym, ap, ◌∙◌}
use mathlib.Core.List.{List, ◌++◌}
use mathlib.Core.Logic.{◌⊎◌, inl, inr, ⊎_elim}
use Prim.Native.Nat.{ℕ, ◌+◌, ◌*◌, ◌^◌, ◌<◌, ◌≤◌}
use native.Mathlib.Nat.{zero-add}
use native.Mathlib.Omega.{arith}
use lib.ListN.{length, get_or}
use Rattle.field.specs.Field.{num, Bytes, Kept}
use Rattle.field.specs.declared.Order.{Order}
use Rattle.field.proofs.Laws.{kept-num, num-bound}
use Rattle.store.specs.Where.{All, none, more}
use Rattle.store.proofs.WhereLaws.{all_append}
use Rattle.inode.specs.Shape.{shape_of, address_at}
use Rattle.inode.specs.Places.{nlink_at, size_at, blocks_at, generation_at, extsize_at, extb_at}
use Rattle.inode.proofs.ReadLaws.{kept_at, kept-address, kept-extb}
use Rattle.inode_record.specs.Record.{listed, spare_at, times_of, inode_of, holds, Fit, Fits, owner_slots, size_slots, second_slots, nanosecond_slots, flag_slots, extb_slots, direct_slots, indirect_slots, last_slots, slots}
use Rattle.inode_record.proofs.SlotLaws.{listed-same, get_or-listed, all_listed}

-- ---- a record outside the bytes that change is as it was

module _ {a n : ℕ} {xs ys : List ℕ} (o : Order) (at : ℕ) (k : Kept a n xs ys) (h : (at + 256 ≤ a) ⊎ (a + n ≤ at)) where
  kept-spare : (j : ℕ) → j < 2 → spare_at o at j ys ≡ spare_at o at j xs
  unfolding spare_at
  kept-spare j b = kept-num o 4 (at + 248 + j * 4) k (⊎_elim (λ l. inl (omega arith)) (λ r. inr (omega arith)) h)

  kept-times : times_of o at ys ≡ times_of o at xs
  unfolding times_of
  kept-times =
      λ i. record {
        atime = kept_at o at k h 8 32 (omega arith) i;
        mtime = kept_at o at k h 8 40 (omega arith) i;
        ctime = kept_at o at k h 8 48 (omega arith) i;
        birthtime = kept_at o at k h 8 56 (omega arith) i;
        mtimensec = kept_at o at k h 4 64 (omega arith) i;
        atimensec = kept_at o at k h 4 68 (omega arith) i;
        ctimensec = kept_at o at k h 4 72 (omega arith) i;
        birthnsec = kept_at o at k h 4 76 (omega arith) i;
      }

  pub kept-inode : inode_of o at ys ≡ inode_of o at xs
  unfolding inode_of
  kept-inode =
      λ i. record {
        mode = kept_at o at k h 2 0 (omega arith) i;
        nlink = kept_at o at k h 2 2 (omega arith) i;
        uid = kept_at o at k h 4 4 (omega arith) i;
        gid = kept_at o at k h 4 8 (omega arith) i;
        blksize = kept_at o at k h 4 12 (omega arith) i;
        size = kept_at o at k h 8 16 (omega arith) i;
        blocks = kept_at o at k h 8 24 (omega arith) i;
        times = kept-times i;
        generation = kept_at o at k h 4 80 (omega arith) i;
        kernflags = kept_at o at k h 4 84 (omega arith) i;
        flags = kept_at o at k h 4 88 (omega arith) i;
        extsize = kept_at o at k h 4 92 (omega arith) i;
        extb = listed-same (λ j. extb_at o at j ys) (λ j. extb_at o at j xs) 0 2 (λ j l r. kept-extb o at k h j (omega arith)) i;
        direct = listed-same (λ j. address_at o at j ys) (λ j. address_at o at j xs) 0 12 (λ j l r. kept-address o at k h j (omega arith)) i;
        indirect = listed-same (λ j. address_at o at j ys) (λ j. address_at o at j xs) 12 3 (λ j l r. kept-address o at k h j (omega arith)) i;
        modrev = kept_at o at k h 8 232 (omega arith) i;
        ignored = kept_at o at k h 4 240 (omega arith) i;
        ckhash = kept_at o at k h 4 244 (omega arith) i;
        spare = listed-same (λ j. spare_at o at j ys) (λ j. spare_at o at j xs) 0 2 (λ j l r. kept-spare j (omega arith)) i;
      }

-- ---- a record that is read fits

module _ (o : Order) (at : ℕ) (img : List ℕ) (b : Bytes img) (h : at + 256 ≤ length img) where
  -- a number that stands in the record
  in_record : (w x : ℕ) → x + w ≤ at + 256 → num o w x img < 256 ^ w
  in_record w x l = num-bound o w x img b (omega arith)

  direct-fits : All Fit (direct_slots (inode_of o at img).direct)
  unfolding inode_of address_at
  direct-fits =
      all_listed (λ k. holds (112 + k * 8) 8 (get_or (listed (λ i. address_at o at i img) 0 12) k 0)) 0 12
      (λ j l r. rw (get_or-listed (λ i. address_at o at i img) 0 12 j (omega arith), zero-add) (in_record 8 (at + 112 + j * 8) (omega arith)))

  pub inode-fits : Fits (inode_of o at img)
  unfolding inode_of times_of listed extb_at address_at spare_at slots
  inode-fits =
      let owner : All Fit (owner_slots (inode_of o at img)) = (more (in_record 2 (at + 0) (omega arith)) (more (in_record 2 (at + 2) (omega arith)) (more (in_record 4 (at + 4) (omega arith)) (more (in_record 4 (at + 8) (omega arith)) (more (in_record 4 (at + 12) (omega arith)) none))))) in
      let size : All Fit (size_slots (inode_of o at img)) = (more (in_record 8 (at + 16) (omega arith)) (more (in_record 8 (at + 24) (omega arith)) none)) in
      let seconds : All Fit (second_slots (inode_of o at img).times) = (more (in_record 8 (at + 32) (omega arith)) (more (in_record 8 (at + 40) (omega arith)) (more (in_record 8 (at + 48) (omega arith)) (more (in_record 8 (at + 56) (omega arith)) none)))) in
      let nanoseconds : All Fit (nanosecond_slots (inode_of o at img).times) = (more (in_record 4 (at + 64) (omega arith)) (more (in_record 4 (at + 68) (omega arith)) (more (in_record 4 (at + 72) (omega arith)) (more (in_record 4 (at + 76) (omega arith)) none)))) in
      let flags : All Fit (flag_slots (inode_of o at img)) = (more (in_record 4 (at + 80) (omega arith)) (more (in_record 4 (at + 84) (omega arith)) (more (in_record 4 (at + 88) (omega arith)) (more (in_record 4 (at + 92) (omega arith)) none)))) in
      let extb : All Fit (extb_slots (inode_of o at img)) = (more (in_record 8 (at + 96 + 0) (omega arith)) (more (in_record 8 (at + 96 + 8) (omega arith)) none)) in
      let indirect : All Fit (indirect_slots (inode_of o at img)) = (more (in_record 8 (at + 112 + 96) (omega arith)) (more (in_record 8 (at + 112 + 104) (omega arith)) (more (in_record 8 (at + 112 + 112) (omega arith)) none))) in
      let last : All Fit (last_slots (inode_of o at img)) = (more (in_record 8 (at + 232) (omega arith)) (more (in_record 4 (at + 240) (omega arith)) (more (in_record 4 (at + 244) (omega arith)) (more (in_record 4 (at + 248 + 0) (omega arith)) (more (in_record 4 (at + 248 + 4) (omega arith)) none))))) in
      record {
        numbers = all_append owner (all_append size (all_append (all_append seconds nanoseconds) (all_append flags (all_append (all_append extb (all_append direct-fits indirect)) last))));
        extb = refl;
        direct = refl;
        indirect = refl;
        spare = refl;
      }

-- ---- the parts that are read alone

module _ (o : Order) (at : ℕ) (img : List ℕ) where
  pub shape-of-inode : shape_of o at img ≡ record { mode = (inode_of o at img).mode; size = (inode_of o at img).size; blocks = (inode_of o at img).blocks }
  unfolding shape_of inode_of
  shape-of-inode = refl

  -- an address is one of the direct ones, or of those that lead to lists
  pub address-of-inode : (k : ℕ) → k < 15 → address_at o at k img ≡ get_or ((inode_of o at img).direct ++ (inode_of o at img).indirect) k 0
  unfolding inode_of listed
  address-of-inode k h = sym (get_or-listed (λ j. address_at o at j img) 0 15 k h ∙ ap (λ (j : ℕ). address_at o at j img) (zero-add k))

  pub extb-of-inode : (j : ℕ) → j < 2 → extb_at o at j img ≡ get_or (inode_of o at img).extb j 0
  unfolding inode_of
  extb-of-inode j h = sym (get_or-listed (λ k. extb_at o at k img) 0 2 j h ∙ ap (λ (k : ℕ). extb_at o at k img) (zero-add j))

  pub nlink-of-inode : nlink_at o at img ≡ (inode_of o at img).nlink
  unfolding nlink_at inode_of
  nlink-of-inode = refl

  pub size-of-inode : size_at o at img ≡ (inode_of o at img).size
  unfolding size_at inode_of
  size-of-inode = refl

  pub blocks-of-inode : blocks_at o at img ≡ (inode_of o at img).blocks
  unfolding blocks_at inode_of
  blocks-of-inode = refl

  pub generation-of-inode : generation_at o at img ≡ (inode_of o at img).generation
  unfolding generation_at inode_of
  generation-of-inode = refl

  pub extsize-of-inode : extsize_at o at img ≡ (inode_of o at img).extsize
  unfolding extsize_at inode_of
  extsize-of-inode = refl
