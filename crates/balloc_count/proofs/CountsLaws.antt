-- Two images that differ in count bytes alone have one frame, one map, one fresh count, and the same magics. Assumes nothing.
use mathlib.Core.Path.{◌≡◌, sym, ◌∙◌}
use mathlib.Core.List.{List}
use mathlib.Core.Logic.{◌⊎◌, inl, inr, ⊎_elim}
use Prim.Native.Nat.{ℕ, ◌+◌, ◌-◌, ◌/◌, ◌≤◌, ◌<◌}
use native.Mathlib.Omega.{arith}
use lib.ListN.{length, get_or-eq_default}
use Rattle.field.specs.Field.{num, Kept}
use Rattle.store.specs.Where.{Range, KeptBut}
use Rattle.store.proofs.OnlyLaws.{kept-but-num}
use Rattle.volume.specs.declared.Geometry.{Geometry}
use Rattle.volume.specs.declared.Count.{Count}
use Rattle.volume.specs.declared.Count.TheVariants.{Nifree}
use Rattle.volume.specs.Volume.{sb_at, geometry_of, magic_at, byte_at, cg_at, count_place, count_at, total_place, total_at}
use Rattle.volume.proofs.Laws.{count-place, total-place, counts-apart, total-count, kept-geometry, magic-is, group-magic-is, count-is, total-is, group-same}
use Rattle.bits.specs.Bits.{bit_at}
use Rattle.bits.proofs.BitsLaws.{bit_at-same}
use Rattle.sound.specs.Sound.{group_at, free_at}
use Rattle.frame.specs.Frame.{Never, Frame, Outside}
use Rattle.frame.proofs.Places.{spots}
use Rattle.frame.proofs.Stores.{frame-kept, record_apart}
use Rattle.frame.proofs.SoundKept.{Marked, MarksApart, count-marks, total-marks}
use Rattle.balloc_count.specs.Recount.{blocks_of, loose_of, total_blocks, total_loose, total_free, Recounted, CountByte, of_group, of_totals}
use Rattle.balloc_count.proofs.FreshLaws.{blocks-agree, loose-agree, free-agree, total-blocks-agree, total-loose-agree, total-free-agree}

-- nifree is none of the counts that are written
not_nifree : {c : Count} → Recounted c → c ≡ Nifree → ⊥
not_nifree r e = ⊎_elim (λ b. let z : ◌≡◌ {A = ℕ} 0 1 = cc in omega arith) (λ f. let z : ◌≡◌ {A = ℕ} 0 1 = cc in omega arith) r

-- ---- fields that no count byte is in

module _ (geo : Geometry) (img : List ℕ) (fr : Frame geo img) where
  -- m bytes at i of group h's record
  record-other : (h i m : ℕ) → h < geo.ncg → cg_at geo h + i + m ≤ byte_at geo h geo.iblkno
      → ((c : Count) → Recounted c → (i + m ≤ count_place c) ⊎ (count_place c + 4 ≤ i))
      → (j : ℕ) → Range (cg_at geo h + i) m j → CountByte geo j → ⊥
  record-other h i m l w a j r (of_group g c lg rc q) =
      let s = spots geo img fr g lg in
      let p = count-place c in
      ⊎_elim (λ x. omega arith) (λ x. omega arith) (record_apart geo img fr g (count_place c) 4 h i m lg l (omega arith) w (λ _. a c rc))
  record-other h i m l w a j r (of_totals c rc q) =
      let s = spots geo img fr h l in
      let p = total-place c in
      omega arith

  -- outside the three counts
  record-outside : (h i m : ℕ) → h < geo.ncg → cg_at geo h + i + m ≤ byte_at geo h geo.iblkno → (i + m ≤ 28) ⊎ (40 ≤ i) → (j : ℕ) → Range (cg_at geo h + i) m j → CountByte geo j → ⊥
  record-outside h i m l w a = record-other h i m l w (λ c rc. let p = count-place c in ⊎_elim (λ x. inl (omega arith)) (λ x. inr (omega arith)) a)

  -- nifree of a group, and the total
  nifree-other : (h : ℕ) → h < geo.ncg → (j : ℕ) → Range (cg_at geo h + count_place Nifree) 4 j → CountByte geo j → ⊥
  nifree-other h l =
      let s = spots geo img fr h l in
      let p = count-place Nifree in
      record-other h (count_place Nifree) 4 l (omega arith) (λ c rc. ⊎_elim (λ x. inr (omega arith)) (λ x. inl (omega arith)) (counts-apart c Nifree (not_nifree rc)))

  total-nifree-other : (j : ℕ) → Range (sb_at + total_place Nifree) 8 j → CountByte geo j → ⊥
  total-nifree-other j r (of_group g c lg rc q) =
      let s = spots geo img fr g lg in
      let p = total-place Nifree in
      omega arith
  total-nifree-other j r (of_totals c rc q) =
      ⊎_elim (λ x. omega (arith, total-count c, total-count Nifree, count-place c, count-place Nifree)) (λ x. omega (arith, total-count c, total-count Nifree, count-place c, count-place Nifree))
      (counts-apart c Nifree (not_nifree rc))

  -- what lies before the totals
  early-other : (j : ℕ) → j < sb_at + 1016 → CountByte geo j → ⊥
  early-other j b (of_group g c lg rc q) = let s = spots geo img fr g lg in omega arith
  early-other j b (of_totals c rc q) = let p = total-place c in omega arith

  -- a magic
  mark-other : (b : ℕ) → ((a n : ℕ) → MarksApart geo a n → Outside a n b 4) → (j : ℕ) → Range b 4 j → CountByte geo j → ⊥
  mark-other b o j r (of_group g c lg rc q) = ⊎_elim (λ x. omega arith) (λ x. omega arith) (o (cg_at geo g + count_place c) 4 (count-marks geo img fr g c lg))
  mark-other b o j r (of_totals c rc q) = ⊎_elim (λ x. omega arith) (λ x. omega arith) (o (sb_at + total_place c) 8 (total-marks geo img fr c))

-- ---- what is the same

module _ (geo : Geometry) (xs ys : List ℕ) (fr : Frame geo xs) (k : KeptBut (CountByte geo) xs ys) where
  record-num : (h i : ℕ) → h < geo.ncg → i + 4 ≤ 168 → (i + 4 ≤ 28) ⊎ (40 ≤ i) → num geo.order 4 (cg_at geo h + i) ys ≡ num geo.order 4 (cg_at geo h + i) xs
  record-num h i l b a = let s = spots geo xs fr h l in kept-but-num k 4 (cg_at geo h + i) (record-outside geo xs fr h i 4 l (omega arith) a) geo.order

  pub group-kept : (h : ℕ) → h < geo.ncg → group_at geo h ys ≡ group_at geo h xs
  group-kept h l =
      group-same geo.order (cg_at geo h) xs ys
      (record-num h 20 l (omega arith) (inl (omega arith)))
      (record-num h 92 l (omega arith) (inr (omega arith)))
      (record-num h 96 l (omega arith) (inr (omega arith)))

  -- a bit of one of the two maps
  bit_kept : (h i f : ℕ) → h < geo.ncg → 40 ≤ i → cg_at geo h + i + f / 8 < byte_at geo h geo.iblkno → bit_at ys (cg_at geo h + i) f ≡ bit_at xs (cg_at geo h + i) f
  bit_kept h i f l a b =
      bit_at-same xs ys (cg_at geo h + i) f
      (k.byte (cg_at geo h + i + f / 8) (record-outside geo xs fr h (i + f / 8) 1 l (omega arith) (inr (omega arith)) (cg_at geo h + i + f / 8) (omega arith, omega arith)))

  pub map-kept : (h : ℕ) → h < geo.ncg → (f : ℕ) → f / 8 < ((group_at geo h xs).ndblk + 7) / 8 → bit_at ys (free_at geo h xs) f ≡ bit_at xs (free_at geo h xs) f
  map-kept h l f b = let s = spots geo xs fr h l in bit_kept h (group_at geo h xs).freeoff f l (omega arith) (omega arith)

  geometry-kept : geometry_of ys ≡ geometry_of xs
  geometry-kept = kept-geometry late (inl (omega arith))
    where
      late : Kept (sb_at + 1016) (length xs) xs ys
      late = record {
        long = k.long;
        byte = λ j o. ⊎_elim (λ b. k.byte j (early-other geo xs fr j b))
            (λ b. let l = k.long in get_or-eq_default ys 0 (omega arith) ∙ sym (get_or-eq_default xs 0 (omega arith))) o;
      }

  pub frame_same : Frame geo ys
  frame_same =
      frame-kept geo xs ys fr k.long geometry-kept group-kept
      (λ h l f v. map-kept h l f (never-byte h l f v) ∙ fr.never h l f v)
      (let s = spots geo xs fr 0 fr.laid.groups in let u = fr.laid.inodes in bit_kept 0 (group_at geo 0 xs).iusedoff 0 fr.laid.groups (omega arith) (omega arith) ∙ fr.zero)
    where
      never-byte : (h : ℕ) → h < geo.ncg → (f : ℕ) → Never geo h xs f → f / 8 < ((group_at geo h xs).ndblk + 7) / 8
      never-byte h l f v = ⊎_elim (λ p. omega arith) (λ p. let d = (fr.head h l).data_in in omega arith) v

  pub marked-same : Marked geo xs → Marked geo ys
  marked-same m =
      let at : (b : ℕ) → ((a n : ℕ) → MarksApart geo a n → Outside a n b 4) → num geo.order 4 b ys ≡ num geo.order 4 b xs =
      λ b o. kept-but-num k 4 b (mark-other geo xs fr b o) geo.order in
      let magic : (b : ℕ) → ((a n : ℕ) → MarksApart geo a n → Outside a n (b + 1372) 4) → magic_at geo.order b ys ≡ magic_at geo.order b xs =
      λ b o. magic-is geo.order b ys ∙ at (b + 1372) o ∙ sym (magic-is geo.order b xs) in
      record {
        super = magic sb_at (λ a n p. p.super) ∙ m.super;
        copies = λ h l. magic (byte_at geo h geo.sblkno) (λ a n p. p.copies h l) ∙ m.copies h l;
        groups = λ h l. group-magic-is geo.order (cg_at geo h) ys ∙ at (cg_at geo h + 4) (λ a n p. p.groups h l) ∙ sym (group-magic-is geo.order (cg_at geo h) xs) ∙ m.groups h l;
      }

  -- nifree is not touched
  pub nifree-kept : (h : ℕ) → h < geo.ncg → count_at geo.order Nifree (cg_at geo h) ys ≡ count_at geo.order Nifree (cg_at geo h) xs
  nifree-kept h l =
      count-is geo.order (cg_at geo h) ys Nifree
      ∙ kept-but-num k 4 (cg_at geo h + count_place Nifree) (nifree-other geo xs fr h l) geo.order
      ∙ sym (count-is geo.order (cg_at geo h) xs Nifree)

  pub total-nifree-kept : total_at geo.order Nifree ys ≡ total_at geo.order Nifree xs
  total-nifree-kept =
      total-is geo.order Nifree ys
      ∙ kept-but-num k 8 (sb_at + total_place Nifree) (total-nifree-other geo xs fr) geo.order
      ∙ sym (total-is geo.order Nifree xs)

  -- the fresh counts
  pub blocks-kept : (g : ℕ) → g < geo.ncg → blocks_of geo g ys ≡ blocks_of geo g xs
  blocks-kept g l = blocks-agree geo g xs ys fr (group-kept g l) (λ f u. map-kept g l f (omega arith))

  pub loose-kept : (g : ℕ) → g < geo.ncg → loose_of geo g ys ≡ loose_of geo g xs
  loose-kept g l = loose-agree geo g xs ys fr (group-kept g l) (λ f u. map-kept g l f (omega arith))

  pub total-blocks-kept : total_blocks geo ys ≡ total_blocks geo xs
  total-blocks-kept = total-blocks-agree geo xs ys blocks-kept

  pub total-loose-kept : total_loose geo ys ≡ total_loose geo xs
  total-loose-kept = total-loose-agree geo xs ys loose-kept

  pub total-free-kept : total_free geo ys ≡ total_free geo xs
  total-free-kept = total-free-agree geo xs ys (λ g l. free-agree geo g xs ys fr (group-kept g l) (λ f u. map-kept g l f (omega arith)))
