-- What every cut of taking back leaves of the maps: the first fragments' bits made 1, all else as it was but for the counts. Assumes nothing.
use Rattle.std.specs.Prelude.{Ok}
use Rattle.std.proofs.Common.{◌≡◌, ℕ, ◌+◌, ◌-◌, ◌/◌, ◌%◌, ◌<◌, ◌≤◌, min, Bool, true, false, ltb, ◌⊎◌, List, [], ◌∷◌, sym, refl, ◌∙◌, inl, inr, ⊎_elim, arith, lt-ltb, eq-eqb, ne_eqb}
use native.Mathlib.Nat.{min-le_right, min-eq_right}
use native.Mathlib.Decide.{ℕ_discrete}
use Rattle.store.specs.Store.{apply_if, cut}
use Rattle.store.specs.Where.{none, more, WriteIn, Only, KeptBut}
use Rattle.store.specs.Act.{cut_act}
use Rattle.store.proofs.StoreLaws.{apply_if-yes, apply_if_no}
use Rattle.store.proofs.CutLaws.{cut_act_lem}
use Rattle.store.proofs.OnlyLaws.{only_none, only_stores, only-cut}
use Rattle.volume.specs.declared.Geometry.{Geometry}
use Rattle.volume.specs.declared.Count.TheVariants.{Nbfree, Nffree}
use Rattle.volume.specs.declared.Counts.{Counts}
use Rattle.volume.specs.declared.Totals.{Totals}
use Rattle.volume.specs.Volume.{byte_at, cg_at, counts_of, totals_of}
use Rattle.volume.proofs.Laws.{kept-group}
use Rattle.bits.specs.Bits.{bit_at, put_bits_at}
use Rattle.bits.proofs.BitsLaws.{kept-bit_at, kept-put_bits_at, put_bits_at-none, bit_at-inside, bit_at-outside}
use Rattle.sound.specs.Sound.{group_at, free_at}
use Rattle.frame.specs.Writes.{map_write, count_write, total_write}
use Rattle.frame.proofs.Places.{spots}
use Rattle.frame.proofs.Stores.{record_apart, fields-apart}
use Rattle.frame.proofs.WriteLaws.{apply-map}
use Rattle.balloc_take.specs.Take.{whole_then, pick, take_test, block_stores, count_stores, frag_stores, take_stores, take_back, back_by}
use Rattle.balloc_take.specs.Run.{BackRun}
use Rattle.balloc_take.proofs.TestLaws.{run-byte}
use Rattle.balloc_take.proofs.TakeLaws.{maps-cut, block-split, frag_cut, stores-block, stores-frags, back-good}

-- ---- the image with the first m fragments of a run back

module _ {geo : Geometry} {g f n : ℕ} {img : List ℕ} (r : BackRun geo img g f n) (m : ℕ) (l : m ≤ n) where
  -- the first m bits are 1, the group's others are as they were
  pub back_inside : (x : ℕ) → f ≤ x → x < f + m → bit_at (put_bits_at 1 img (free_at geo g img) f m) (free_at geo g img) x ≡ 1
  back_inside x a b = bit_at-inside 1 img (free_at geo g img) f m (omega arith) (omega (arith, r.in_byte)) (run-byte r) x a b

  pub back-outside : (x : ℕ) → (x < f) ⊎ (f + m ≤ x) → bit_at (put_bits_at 1 img (free_at geo g img) f m) (free_at geo g img) x ≡ bit_at img (free_at geo g img) x
  back-outside x o = bit_at-outside 1 img (free_at geo g img) f m (omega arith) (omega (arith, r.in_byte)) (run-byte r) x o

  -- the byte stands in the group's record, past its fields
  place : cg_at geo g + ((group_at geo g img).freeoff + f / 8) + 1 ≤ byte_at geo g geo.iblkno
  place = let s = spots geo img r.frame g r.group in let w = r.within in let o = r.some in omega arith

  place_is : cg_at geo g + ((group_at geo g img).freeoff + f / 8) ≡ free_at geo g img + f / 8
  place_is = omega arith

  -- the groups' fixed fields are as they were, and so is where the maps stand
  pub back-group : (h : ℕ) → h < geo.ncg → group_at geo h (put_bits_at 1 img (free_at geo g img) f m) ≡ group_at geo h img
  back-group h lh =
      let s = spots geo img r.frame g r.group in
      let p = fields-apart geo img r.frame g ((group_at geo g img).freeoff + f / 8) 1 r.group place (omega arith, inr (omega arith)) in
      kept-group (kept-put_bits_at 1 img (free_at geo g img) f m) geo.order (cg_at geo h)
      (⊎_elim (λ x. inl (omega arith)) (λ x. inr (omega arith)) (p.ndblk h lh)) (⊎_elim (λ x. inl (omega arith)) (λ x. inr (omega arith)) (p.offsets h lh))

  -- the bits of every other group are as they were
  pub back-other : (h : ℕ) → h < geo.ncg → (g ≡ h → ⊥) → (x : ℕ) → x / 8 < ((group_at geo h img).ndblk + 7) / 8
      → bit_at (put_bits_at 1 img (free_at geo g img) f m) (free_at geo h img) x ≡ bit_at img (free_at geo h img) x
  back-other h lh ne x b =
      let t = spots geo img r.frame h lh in
      let p = record_apart geo img r.frame g ((group_at geo g img).freeoff + f / 8) 1 h ((group_at geo h img).freeoff + x / 8) 1 r.group lh place (omega arith) (λ e. absurd (ne e)) in
      kept-bit_at (free_at geo h img) x (kept-put_bits_at 1 img (free_at geo g img) f m) (⊎_elim (λ y. inl (omega arith)) (λ y. inr (omega arith)) p)

-- ---- the counts' stores write counts alone

-- bytes of Q are all that a count of group g or a total is stored in
pub record CountsIn (Q : ℕ → Type 0) (geo : Geometry) (g : ℕ) : Type 0 where
  pub blocks : (v : ℕ) → WriteIn Q (count_write geo g Nbfree v)
  pub frags : (v : ℕ) → WriteIn Q (count_write geo g Nffree v)
  pub blocks_total : (v : ℕ) → WriteIn Q (total_write geo Nbfree v)
  pub total_frags : (v : ℕ) → WriteIn Q (total_write geo Nffree v)

module _ {Q : ℕ → Type 0} {geo : Geometry} {g : ℕ} (q : CountsIn Q geo g) where
  counts-only : (n : ℕ) (c : Counts) (t : Totals) (whole : Bool) → Only Q (count_stores geo g n c t whole)
  counts-only n c t true =
      only_stores (more (q.total_frags _) none)
      (only_stores (more (q.total_frags _) (more (q.blocks_total _) none)) (only_stores (more (q.frags _) (more (q.blocks _) none)) only_none))
  counts-only n c t false = only_stores (more (q.total_frags _) none) (only_stores (more (q.frags _) (more (q.blocks _) none)) only_none)

  -- ---- the cuts

  frags-kept : (k f n : ℕ) (img : List ℕ) → KeptBut Q (put_bits_at 1 img (free_at geo g img) f (min k n)) (cut k (frag_stores geo g f n img) img)
  frags-kept k f n img =
      rw (frag_cut geo g f img k n, maps-cut geo g f img k n) (only-cut (counts-only n (counts_of geo.order (cg_at geo g) img) (totals_of geo.order img) (whole_then geo g f n img)) (k - n) (put_bits_at 1 img (free_at geo g img) f (min k n)))

  block-kept : (k f : ℕ) (img : List ℕ) → KeptBut Q (put_bits_at 1 img (free_at geo g img) f (pick (ltb 0 k) geo.frag 0)) (cut k (block_stores geo g f img) img)
  block-kept k f img =
      rw (block-split geo g f img k, first_store (ltb 0 k))
      (only-cut (only_stores (more (q.blocks_total _) none) (only_stores (more (q.blocks _) none) only_none)) (k - 1) (put_bits_at 1 img (free_at geo g img) f (pick (ltb 0 k) geo.frag 0)))
    where
      first_store : (go : Bool) → apply_if go (map_write 1 geo g f geo.frag img ∷ []) img ≡ put_bits_at 1 img (free_at geo g img) f (pick go geo.frag 0)
      first_store true = apply_if-yes {go = true} refl (map_write 1 geo g f geo.frag img ∷ []) img ∙ apply-map geo img 1 g f geo.frag
      first_store false = apply_if_no {go = false} refl (map_write 1 geo g f geo.frag img ∷ []) img ∙ sym (put_bits_at-none 1 img (free_at geo g img) f)

-- ---- how many are back

pick_le : (go : Bool) (n : ℕ) → pick go n 0 ≤ n
pick_le true n = omega arith
pick_le false n = omega arith

module _ (geo : Geometry) (n k : ℕ) where
  by-block : n ≡ geo.frag → back_by geo n k ≡ pick (ltb 0 k) n 0
  unfolding back_by
  by-block e = rw (eq-eqb n geo.frag e)

  by-frags : (n ≡ geo.frag → ⊥) → back_by geo n k ≡ min k n
  unfolding back_by
  by-frags e = rw (ne_eqb n geo.frag e)

  pub back-most : back_by geo n k ≤ n
  back-most = go (ℕ_discrete n geo.frag)
    where
      go : Dec (n ≡ geo.frag) → back_by geo n k ≤ n
      go (yes e) = omega (arith, by-block e, pick_le (ltb 0 k) n)
      go (no e) = omega (arith, by-frags e, min-le_right k n)

  -- all of them, once n stores are made
  pub back-all : 0 < n → n ≤ k → back_by geo n k ≡ n
  back-all some l = go (ℕ_discrete n geo.frag)
    where
      go : Dec (n ≡ geo.frag) → back_by geo n k ≡ n
      go (yes e) = by-block e ∙ rw (lt-ltb 0 k (omega arith))
      go (no e) = by-frags e ∙ min-eq_right l

-- ---- the call: at every cut its image is the one with that many fragments back, but for the counts

module _ (geo : Geometry) (a size : ℕ) (img : List ℕ) (some : a ≡ 0 → ⊥) (h : take_test geo a size img ≡ Ok tt) where
  pub take-kept : {Q : ℕ → Type 0} → CountsIn Q geo (a / geo.fpg) → (k : ℕ)
      → KeptBut Q (put_bits_at 1 img (free_at geo (a / geo.fpg) img) (a % geo.fpg) (back_by geo (size / geo.fsize) k)) (cut_act k (take_back geo a size) img)
  take-kept {Q} q k = rw (cut_act_lem k (take_back geo a size) img, back-good geo a size img some h) (go (ℕ_discrete (size / geo.fsize) geo.frag))
    where
      go : Dec (size / geo.fsize ≡ geo.frag)
          → KeptBut Q (put_bits_at 1 img (free_at geo (a / geo.fpg) img) (a % geo.fpg) (back_by geo (size / geo.fsize) k)) (cut k (take_stores geo a size img) img)
      go (yes e) = rw (stores-block geo a size img refl refl e, by-block geo (size / geo.fsize) k e, e) (block-kept q k (a % geo.fpg) img)
      go (no e) = rw (stores-frags geo a size img refl refl refl e, by-frags geo (size / geo.fsize) k e) (frags-kept q k (a % geo.fpg) (size / geo.fsize) img)
