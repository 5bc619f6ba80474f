-- The record whole: its store covers its 256 bytes and no other, and reads back whole. Assumes nothing.
use mathlib.Core.Path.{◌≡◌, sym, ap, ◌∙◌}
use mathlib.Core.List.{List, [], ◌∷◌}
use mathlib.Core.Logic.{inl, inr}
use Prim.Native.Nat.{ℕ, ◌+◌, ◌*◌, ◌<◌, ◌≤◌}
use native.Mathlib.Nat.{add_assoc}
use native.Mathlib.Omega.{arith}
use native.Mathlib.Decide.{dec_lt, dec_le}
use lib.Dec.{T}
use lib.ListN.{length, get_or}
use Rattle.field.specs.Field.{num, Kept}
use Rattle.field.specs.declared.Order.{Order}
use Rattle.store.specs.Store.{Store, apply}
use Rattle.store.specs.Where.{All, none, more, Outside, StoreIn, Range}
use Rattle.store.proofs.StoreLaws.{apply_all-one}
use Rattle.store.proofs.WhereLaws.{all-more, all_parts, apply_all_cover}
use Rattle.store.proofs.OnlyLaws.{kept-store}
use Rattle.inode.specs.declared.Times.{Times}
use Rattle.inode.specs.declared.Inode.{Inode}
use Rattle.inode.specs.Shape.{address_at}
use Rattle.inode.specs.Places.{extb_at}
use Rattle.inode_record.specs.Record.{listed, spare_at, times_of, inode_of, Slot, holds, Fits, owner_slots, size_slots, second_slots, nanosecond_slots, time_slots, flag_slots, extb_slots, direct_slots, indirect_slots, address_slots, last_slots, slots, inode_store}
use Rattle.inode_record.proofs.SlotLaws.{along, along-inside, along-covers, along-read, listed-same, listed-whole, listed-all}

-- the record's numbers stand one after another and fill 256 bytes
slots_along : (v : Inode) → T (along 0 256 (slots v))
unfolding slots listed
slots_along v = tt

module _ (o : Order) (at : ℕ) (v : Inode) where
  pub inode-inside : StoreIn (Range at 256) (inode_store o at v)
  unfolding inode_store
  inode-inside = all-more (λ w i j a b. let z = i j a b in (omega (arith, z.0), z.1)) (along-inside o at 0 256 (slots v) (slots_along v))

  -- the neighbours are untouched
  pub kept-inode-store : (img : List ℕ) → Kept at 256 img (apply (inode_store o at v) img)
  kept-inode-store img = kept-store inode-inside img

  -- every one of its bytes is written
  pub inode-covers : (j : ℕ) → Range at 256 j → Outside j (inode_store o at v) → ⊥
  unfolding inode_store
  inode-covers j r n = along-covers o at 0 256 (slots v) (slots_along v) j (omega (arith, r.0), r.1) n

  -- so what the 256 bytes were before does not matter
  pub inode-store-fixes : (xs ys : List ℕ) → Kept at 256 xs ys → apply (inode_store o at v) xs ≡ apply (inode_store o at v) ys
  inode-store-fixes xs ys k = sym (apply_all-one s xs) ∙ apply_all_cover (s ∷ []) xs ys (sym k.long) (λ j n. byte j n (dec_lt j at) (dec_le (at + 256) j)) ∙ apply_all-one s ys
    where
      s : Store
      s = inode_store o at v

      byte : (j : ℕ) → All (Outside j) (s ∷ []) → Dec (j < at) → Dec (at + 256 ≤ j) → get_or xs j 0 ≡ get_or ys j 0
      byte j n (yes a) d = sym (k.byte j (inl a))
      byte j n (no a) (yes b) = sym (k.byte j (inr b))
      byte j (more n none) (no a) (no b) = absurd (inode-covers j (omega arith, omega arith) n)

-- ---- reading back

-- the numbers of one part of the record
module _ (o : Order) (at : ℕ) (img : List ℕ) where
  -- the number of a slot is there
  abbrev Reads : Slot → Type 0
  Reads s = num o s.width (at + s.place) img ≡ s.value

  -- the k-th of numbers that stand from place b on
  element : (w b k : ℕ) {v : ℕ} → num o w (at + (b + k * w)) img ≡ v → num o w (at + b + k * w) img ≡ v
  element w b k r = ap (λ (x : ℕ). num o w x img) (add_assoc at b (k * w)) ∙ r

  times-back : (t : Times) → All Reads (second_slots t) → All Reads (nanosecond_slots t) → times_of o at img ≡ t
  unfolding times_of
  times-back t (more a (more m (more c (more b none)))) (more mn (more an (more cn (more bn none)))) =
      λ i. record { atime = a i; mtime = m i; ctime = c i; birthtime = b i; mtimensec = mn i; atimensec = an i; ctimensec = cn i; birthnsec = bn i }

  extb-back : (v : Inode) → length v.extb ≡ 2 → All Reads (extb_slots v) → listed (λ j. extb_at o at j img) 0 2 ≡ v.extb
  unfolding listed extb_at
  extb-back v l (more a (more b none)) =
      (λ i. element 8 96 0 a i ∷ element 8 96 1 b i ∷ []) ∙ listed-whole v.extb 2 l

  direct-back : (v : Inode) → length v.direct ≡ 12 → All Reads (direct_slots v.direct) → listed (λ k. address_at o at k img) 0 12 ≡ v.direct
  unfolding address_at
  direct-back v l d =
      listed-same (λ k. address_at o at k img) (λ k. get_or v.direct k 0) 0 12 (λ j a b. element 8 112 j (listed-all (λ k. holds (112 + k * 8) 8 (get_or v.direct k 0)) 0 12 d j a b))
      ∙ listed-whole v.direct 12 l

  indirect-back : (v : Inode) → length v.indirect ≡ 3 → All Reads (indirect_slots v) → listed (λ k. address_at o at k img) 12 3 ≡ v.indirect
  unfolding listed address_at
  indirect-back v l (more a (more b (more c none))) =
      (λ i. element 8 112 12 a i ∷ element 8 112 13 b i ∷ element 8 112 14 c i ∷ []) ∙ listed-whole v.indirect 3 l

  spare-back : (v : Inode) → length v.spare ≡ 2 → num o 4 (at + 248) img ≡ get_or v.spare 0 0 → num o 4 (at + 252) img ≡ get_or v.spare 1 0 → listed (λ j. spare_at o at j img) 0 2 ≡ v.spare
  unfolding listed spare_at
  spare-back v l a b = (λ i. element 4 248 0 a i ∷ element 4 248 1 b i ∷ []) ∙ listed-whole v.spare 2 l

  -- a record whose numbers are all there is the record read
  record-back : (v : Inode) → Fits v → All Reads (owner_slots v) → All Reads (size_slots v) → All Reads (time_slots v.times) → All Reads (flag_slots v) → All Reads (address_slots v) → All Reads (last_slots v)
      → inode_of o at img ≡ v
  unfolding inode_of
  record-back v f (more mode (more nlink (more uid (more gid (more blksize none))))) (more size (more blocks none)) times (more generation (more kernflags (more flags (more extsize none)))) addresses (more modrev (more ignored (more ckhash (more first (more second none))))) =
      let t = all_parts (second_slots v.times) times in
      let a = all_parts (extb_slots v) addresses in
      let d = all_parts (direct_slots v.direct) a.1 in
      λ i. record {
        mode = mode i;
        nlink = nlink i;
        uid = uid i;
        gid = gid i;
        blksize = blksize i;
        size = size i;
        blocks = blocks i;
        times = times-back v.times t.0 t.1 i;
        generation = generation i;
        kernflags = kernflags i;
        flags = flags i;
        extsize = extsize i;
        extb = extb-back v f.extb a.0 i;
        direct = direct-back v f.direct d.0 i;
        indirect = indirect-back v f.indirect d.1 i;
        modrev = modrev i;
        ignored = ignored i;
        ckhash = ckhash i;
        spare = spare-back v f.spare first second i;
      }

-- the record written whole reads back whole
pub inode-back : (o : Order) (at : ℕ) (v : Inode) (img : List ℕ) → Fits v → at + 256 ≤ length img → inode_of o at (apply (inode_store o at v) img) ≡ v
unfolding inode_store slots
inode-back o at v img f h =
    let all = along-read o at 0 256 (slots v) (slots_along v) f.numbers img h in
    let p = all_parts (owner_slots v) all in
    let q = all_parts (size_slots v) p.1 in
    let r = all_parts (time_slots v.times) q.1 in
    let s = all_parts (flag_slots v) r.1 in
    let t = all_parts (address_slots v) s.1 in
    record-back o at (apply (inode_store o at v) img) v f p.0 q.0 r.0 s.0 t.0 t.1
