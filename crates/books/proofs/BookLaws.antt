-- Giving out and taking back write the books alone, and where the books lie. Assumes nothing.
use Rattle.std.specs.Prelude.{Option, Some, None, Result, Ok, Err}
use mathlib.Core.Path.{◌≡◌, refl, sym, ap, subst, ◌∙◌}
use mathlib.Core.Bool.{Bool, true, false}
use mathlib.Core.List.{List, [], ◌∷◌}
use mathlib.Core.Logic.{◌⊎◌, inl, inr, ⊎_elim}
use native.Mathlib.Decide.{ℕ_discrete}
use Prim.Native.Nat.{ℕ, zero, suc, ◌+◌, ◌-◌, ◌*◌, ◌/◌, ◌%◌, ◌≤◌, ◌<◌}
use native.Mathlib.Omega.{arith}
use lib.ListN.{length}
use Rattle.refusal.specs.declared.Refusal.{Refusal}
use Rattle.store.specs.Store.{Write, Store}
use Rattle.store.specs.Where.{All, none, more, WriteIn, StoreIn, Only, Range}
use Rattle.store.proofs.OnlyLaws.{only_none, only_stores, only-append, only-more}
use Rattle.volume.specs.declared.Geometry.{Geometry}
use Rattle.volume.specs.declared.Count.{Count}
use Rattle.volume.specs.declared.Count.TheVariants.{Nbfree, Nifree, Nffree}
use Rattle.volume.specs.Volume.{sb_at, byte_at, cg_at, counts_of, totals_of, count_place, total_place}
use Rattle.volume.proofs.Laws.{count-place, total-place}
use Rattle.sound.specs.Sound.{group_at, free_at, used_at}
use Rattle.frame.specs.Frame.{Frame, Outside}
use Rattle.frame.specs.Writes.{map_write, count_write, total_write}
use Rattle.frame.proofs.Places.{spots}
use Rattle.frame.proofs.Stores.{record_apart}
use Rattle.frame.proofs.WriteLaws.{count_in, total_in}
use Rattle.bits.specs.Bits.{put_bits}
use Rattle.bits.proofs.BitsLaws.{frag-some}
use Rattle.store.specs.Act.{Act, Out, got, refused}
use Rattle.balloc_give.specs.Give.{chosen, giving, give_stores, give_block}
use Rattle.balloc_give.proofs.GiveLaws.{chosen-is, block_inside}
use Rattle.volume.specs.declared.Counts.{Counts}
use Rattle.volume.specs.declared.Totals.{Totals}
use Rattle.balloc_take.specs.Run.{BackRun}
use Rattle.balloc_take.specs.Take.{take_test, take_back, take_stores, block_stores, frag_maps, frag_stores, count_stores, whole_then}
use Rattle.balloc_take.proofs.TestLaws.{good-run}
use Rattle.balloc_take.proofs.TakeLaws.{stores-block, stores-frags, back-zero, back-good, back-bad}
use Rattle.books.specs.Books.{Book, of_free, of_used, of_counts, of_totals}

module _ (geo : Geometry) (img : List ℕ) where
  -- ---- the writes

  count-book : (g : ℕ) → g < geo.ncg → (c : Count) (v : ℕ) → WriteIn (Book geo img) (count_write geo g c v)
  count-book g l c v = count_in geo g c v (λ j r. let q = count-place c in of_counts g l (omega arith, omega arith))

  total-book : (c : Count) (v : ℕ) → WriteIn (Book geo img) (total_write geo c v)
  total-book c v = total_in geo c v (λ j r. let q = total-place c in of_totals (omega arith, omega arith))

  map-book : (v g f n : ℕ) → g < geo.ncg → f / 8 < ((group_at geo g img).ndblk + 7) / 8 → WriteIn (Book geo img) (map_write v geo g f n img)
  unfolding map_write
  map-book v g f n l b = λ j lo hi. of_free g l (omega arith, omega arith)

  -- ---- giving out

  module _ (fr : Frame geo img) where
    pub give-only : Only (Book geo img) (give_block geo img).stores
    unfolding give_block give_stores
    give-only = go (chosen geo img) refl
      where
        go : (c : Option (ℕ × ℕ)) → chosen geo img ≡ c → Only (Book geo img) (giving geo img c).stores
        go None q = only_none
        go (Some (g, h)) q =
            let i = chosen-is geo img g h q in
            let w = block_inside geo img fr g h i.group i.block in
            only_stores (more (map-book 0 g (geo.frag * h) geo.frag i.group (omega (arith, w, frag-some geo.frag fr.sizes.frag))) none)
            (only_stores (more (count-book g i.group Nbfree _) none) (only_stores (more (total-book Nbfree _) none) only_none))

    -- ---- taking back

    module _ (g f n : ℕ) (r : BackRun geo img g f n) where
      byte-in : f / 8 < ((group_at geo g img).ndblk + 7) / 8
      byte-in = omega (arith, r.some, r.within)

      maps-only : (m : ℕ) → Only (Book geo img) (frag_maps geo g f img m)
      unfolding frag_maps
      maps-only zero = only_none
      maps-only (suc m) = only-append (maps-only m) (only_stores (more (map-book 1 g f (suc m) r.group byte-in) none) only_none)

      counts-only : (m : ℕ) (c : Counts) (t : Totals) (whole : Bool) → Only (Book geo img) (count_stores geo g m c t whole)
      counts-only m c t true =
          only_stores (more (total-book Nffree _) none)
          (only_stores (more (total-book Nffree _) (more (total-book Nbfree _) none)) (only_stores (more (count-book g r.group Nffree _) (more (count-book g r.group Nbfree _) none)) only_none))
      counts-only m c t false = only_stores (more (total-book Nffree _) none) (only_stores (more (count-book g r.group Nffree _) (more (count-book g r.group Nbfree _) none)) only_none)

      frags-only : Only (Book geo img) (frag_stores geo g f n img)
      unfolding frag_stores
      frags-only = only-append (maps-only n) (counts-only n (counts_of geo.order (cg_at geo g) img) (totals_of geo.order img) (whole_then geo g f n img))

      block-only : Only (Book geo img) (block_stores geo g f img)
      unfolding block_stores
      block-only =
          only_stores (more (map-book 1 g f geo.frag r.group byte-in) none)
          (only_stores (more (total-book Nbfree _) none) (only_stores (more (count-book g r.group Nbfree _) none) only_none))

    pub take-only : (a size : ℕ) → Only (Book geo img) (take_back geo a size img).stores
    take-only a size = go (ℕ_discrete a 0) (take_test geo a size img) refl (ℕ_discrete (size / geo.fsize) geo.frag)
      where
        go : Dec (a ≡ 0) → (j : Result (Unit {0}) Refusal) → take_test geo a size img ≡ j → Dec (size / geo.fsize ≡ geo.frag) → Only (Book geo img) (take_back geo a size img).stores
        go (yes z) j e d = rw (back-zero geo a size img z) only_none
        go (no z) (Err e) q d = rw (back-bad geo a size img z q) only_none
        go (no z) (Ok u) q (yes d) =
            let r = good-run geo a size img q fr in
            rw (back-good geo a size img z q, stores-block geo a size img refl refl d) (block-only (a / geo.fpg) (a % geo.fpg) (size / geo.fsize) r)
        go (no z) (Ok u) q (no d) =
            let r = good-run geo a size img q fr in
            rw (back-good geo a size img z q, stores-frags geo a size img refl refl refl d) (frags-only (a / geo.fpg) (a % geo.fpg) (size / geo.fsize) r)

-- ---- where the books lie

module _ (geo : Geometry) (xs : List ℕ) (fr : Frame geo xs) where
  -- two runs of bytes that lie apart share none
  apart : (a n b m : ℕ) {j : ℕ} → Outside a n b m → Range a n j → Range b m j → ⊥
  apart a n b m (inl x) p q = omega arith
  apart a n b m (inr x) p q = omega arith

  -- a field of a group's record that is no count: it ends before the maps
  module _ (h i m : ℕ) (l : h < geo.ncg) (q : (i + m ≤ 28) ⊎ ((40 ≤ i) × (i + m ≤ 168))) where
    field-most : i + m ≤ 168
    field-most = ⊎_elim (λ x. omega arith) (λ x. omega arith) q

    field_end : cg_at geo h + i + m ≤ byte_at geo h geo.iblkno
    field_end = let t = spots geo xs fr h l in omega (arith, field-most)

    -- none of the books
    pub book-fixed : {j : ℕ} → Book geo xs j → Range (cg_at geo h + i) m j → ⊥
    book-fixed (of_free g k b) r =
        let s = spots geo xs fr g k in
        apart _ _ _ _ (record_apart geo xs fr g (group_at geo g xs).freeoff (((group_at geo g xs).ndblk + 7) / 8) h i m k l (omega arith) field_end (λ e. inl (omega (arith, field-most)))) b r
    book-fixed (of_used g k b) r =
        let s = spots geo xs fr g k in
        apart _ _ _ _ (record_apart geo xs fr g (group_at geo g xs).iusedoff (geo.ipg / 8) h i m k l (omega arith) field_end (λ e. inl (omega (arith, field-most)))) b r
    book-fixed (of_counts g k b) r =
        let s = spots geo xs fr g k in
        apart _ _ _ _ (record_apart geo xs fr g 28 12 h i m k l (omega arith) field_end (λ e. ⊎_elim (λ x. inl (omega arith)) (λ x. inr (omega arith)) q)) b r
    book-fixed (of_totals b) r = let t = spots geo xs fr h l in omega (arith, b, r)

  -- before the groups, or in a group's record with its maps, ahead of its inodes
  pub data Where (j : ℕ) : Type 0 where
    early : j < 66912 → Where j
    in_record : (g : ℕ) → g < geo.ncg → cg_at geo g ≤ j → j < byte_at geo g geo.iblkno → Where j

  pub book-where : {j : ℕ} → Book geo xs j → Where j
  book-where (of_free g l r) = let s = spots geo xs fr g l in in_record g l (omega arith) (omega arith)
  book-where (of_used g l r) = let s = spots geo xs fr g l in in_record g l (omega arith) (omega arith)
  book-where (of_counts g l r) = let s = spots geo xs fr g l in in_record g l (omega arith) (omega arith)
  book-where (of_totals r) = early (omega arith)
