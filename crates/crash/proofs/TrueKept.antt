-- True counts stay true over a finished block call, and the free fragments move by what it gave or took back. Assumes nothing.
use mathlib.Core.Path.{◌≡◌, refl, sym, ap, ◌∙◌}
use mathlib.Core.Bool.{Bool, true, false}
use mathlib.Core.List.{List, [], ◌∷◌}
use mathlib.Core.Logic.{inl, inr}
use Prim.Native.Nat.{ℕ, ◌+◌, ◌-◌, ◌*◌, ◌/◌, ◌%◌}
use native.Mathlib.Nat.{min-eq_right, mul-div_cancel_left, mul-mod_right, div-add-mod}
use native.Mathlib.Decide.{ℕ_discrete}
use native.Mathlib.Omega.{arith}
use lib.ListN.{length}
use lib.Dec.{ltb}
use Rattle.store.specs.Store.{Write, Store, apply, apply_all, apply_if, cut}
use Rattle.store.proofs.StoreLaws.{apply_append, apply_all-one, apply_all_append, apply_if-yes}
use Rattle.store.proofs.CutLaws.{cut-all}
use Rattle.volume.specs.declared.Geometry.{Geometry}
use Rattle.volume.specs.declared.Count.TheVariants.{Nbfree, Nffree}
use Rattle.bits.specs.Upto.{as_bit}
use Rattle.bits.specs.Bits.{bit_at, bits_are, block_free, put_bits_at}
use Rattle.bits.proofs.UptoLaws.{as_bit-true, as_bit-false}
use Rattle.bits.proofs.BitsLaws.{frag-some, frag-most, block_in_byte, bits_at, bits-fail, free-bits}
use Rattle.bits.proofs.ChangeLaws.{run-put, block-is}
use Rattle.sound.specs.Sound.{free_at}
use Rattle.frame.specs.Frame.{Frame}
use Rattle.frame.specs.Writes.{map_write}
use Rattle.frame.proofs.WriteLaws.{apply-map}
use Rattle.balloc_give.specs.Give.{give_stores}
use Rattle.balloc_give.proofs.GiveLaws.{IsChosen, block_inside, give_three, give-cut}
use Rattle.balloc_take.specs.Take.{whole_then, block_stores, frag_counts, frag_stores, take_stores}
use Rattle.balloc_take.specs.Run.{BackRun}
use Rattle.balloc_take.proofs.TestLaws.{run-byte, whole-is, back-run, Passed}
use Rattle.balloc_take.proofs.TakeLaws.{maps-cut, block-length, block-cut, frag-length, frag_cut, stores-block, stores-frags}
use Rattle.balloc_count.specs.Recount.{total_free, TrueCounts}
use Rattle.crash.proofs.RunLaws.{with_bits, RunMade, made-frame}
use Rattle.crash.proofs.FinishedLaws.{map-written, written_count, written-total, untouched, risen, fallen, risen-fallen, Finished, ended, finished-free, finished-true}

-- ---- stores one by one

-- a map byte and two stores, from what a cut past the last of them leaves
three_made : (geo : Geometry) (img : List ℕ) (v g f n : ℕ) (ss : List Store) (s t : Store) → length ss ≡ 3
    → cut 3 ss img ≡ apply_if (ltb 2 3) s (apply_if (ltb 1 3) t (apply_if (ltb 0 3) (map_write v geo g f n img ∷ []) img)) → apply_all ss img ≡ apply s (apply t (with_bits v geo g f n img))
three_made geo img v g f n ss s t l e =
    sym (cut-all 3 ss img (omega arith))
    ∙ e
    ∙ apply_if-yes {go = ltb 2 3} refl s _
    ∙ ap (apply s) (apply_if-yes {go = ltb 1 3} refl t _ ∙ ap (apply t) (apply_if-yes {go = ltb 0 3} refl _ img ∙ apply-map geo img v g f n))

-- a store, and one of two writes; the same, and another of two
pair_made : (s : Store) (w x : Write) (img : List ℕ) → apply_all (s ∷ (w ∷ x ∷ []) ∷ []) img ≡ apply (x ∷ []) (apply (w ∷ []) (apply s img))
pair_made s w x img =
    apply_all_append (s ∷ []) ((w ∷ x ∷ []) ∷ []) img ∙ ap (apply_all ((w ∷ x ∷ []) ∷ [])) (apply_all-one s img)
    ∙ apply_all-one (w ∷ x ∷ []) (apply s img) ∙ apply_append (w ∷ []) (x ∷ []) (apply s img)

pairs_made : (s : Store) (w x y z : Write) (img : List ℕ)
    → apply_all (s ∷ (w ∷ x ∷ []) ∷ (y ∷ z ∷ []) ∷ []) img ≡ apply (z ∷ []) (apply (y ∷ []) (apply (x ∷ []) (apply (w ∷ []) (apply s img))))
pairs_made s w x y z img =
    apply_all_append (s ∷ (w ∷ x ∷ []) ∷ []) ((y ∷ z ∷ []) ∷ []) img ∙ ap (apply_all ((y ∷ z ∷ []) ∷ [])) (pair_made s w x img)
    ∙ apply_all-one (y ∷ z ∷ []) _ ∙ apply_append (y ∷ []) (z ∷ []) _

-- ---- a block given

module _ (geo : Geometry) (img : List ℕ) (fr : Frame geo img) (g h : ℕ) (i : IsChosen geo img g h) where
  own_block : geo.frag * h / geo.frag ≡ h
  own_block = mul-div_cancel_left h (frag-some geo.frag fr.sizes.frag)

  give-free : bits_are 1 img (free_at geo g img) (geo.frag * h) geo.frag ≡ true
  give-free = sym (free-bits geo.frag img (free_at geo g img) h) ∙ i.free

  give-run : BackRun geo img g (geo.frag * h) geo.frag
  give-run = record {
    frame = fr;
    group = i.group;
    some = frag-some geo.frag fr.sizes.frag;
    most = omega arith;
    within = block_inside geo img fr g h i.group i.block;
    within_block = omega (arith, mul-mod_right geo.frag h);
    in_byte = block_in_byte h geo.frag fr.sizes.frag;
    may = λ k l v. omega (arith, fr.never g i.group (geo.frag * h + k) v, bits_at 1 img (free_at geo g img) (geo.frag * h) geo.frag k give-free l);
  }

  pub give-made : RunMade geo img g (geo.frag * h) geo.frag 1 0 1 0
  give-made = record {
    run = give-run;
    two = omega arith;
    were = give-free;
    before = rw own_block (as_bit-true i.free);
    after = rw own_block (block-is 0 geo.frag _ (free_at geo g img) h (omega arith) give-run.some (run-put 0 img (free_at geo g img) (geo.frag * h) geo.frag (omega arith) give-run.in_byte (run-byte give-run)));
  }

  give-finished : Finished geo img (apply_all (give_stores geo img g h) img) g (geo.frag * h) geo.frag 1 0 1 0
  give-finished =
      let fm = made-frame give-made in
      let l = i.group in
      ended (three_made geo img 0 g (geo.frag * h) geo.frag (give_stores geo img g h) _ _ (give_three geo img g h) (give-cut 3 geo img g h)) give-made
      (written-total fm l (written_count fm l (map-written give-made) Nbfree (inl refl) _) Nbfree (inl refl) _)
      (fallen Nbfree 1 refl refl refl refl)
      (untouched Nffree refl refl (omega arith) (omega (arith, frag-most geo.frag fr.sizes.frag)))

-- ---- a run taken back

module _ {geo : Geometry} {img : List ℕ} {g f n : ℕ} (r : BackRun geo img g f n) (clear : bits_are 0 img (free_at geo g img) f n ≡ true) where
  -- its block was not wholly free
  back-before : as_bit (block_free geo.frag img (free_at geo g img) (f / geo.frag)) ≡ 0
  back-before =
      let at = free_at geo g img in
      let e : geo.frag * (f / geo.frag) + f % geo.frag ≡ f + 0 = omega (arith, div-add-mod f geo.frag) in
      let z = ap (bit_at img at) e ∙ bits_at 0 img at f n 0 clear r.some in
      let b = r.within_block in
      let o = r.some in
      as_bit-false (free-bits geo.frag img at (f / geo.frag) ∙ bits-fail 1 img at (geo.frag * (f / geo.frag)) geo.frag (f % geo.frag) (omega arith) (λ q. omega arith))

  pub back-made : {is : ℕ} → as_bit (whole_then geo g f n img) ≡ is → RunMade geo img g f n 0 1 0 is
  back-made e = record { run = r; two = omega arith; were = clear; before = back-before; after = ap as_bit (sym (whole-is geo g f n img)) ∙ e }

  -- fewer fragments than a block
  frags-after : {whole : Bool} → whole_then geo g f n img ≡ whole → apply_all (frag_stores geo g f n img) img ≡ apply_all (frag_counts geo g n img whole) (with_bits 1 geo g f n img)
  frags-after {whole} e =
      let ts = frag_counts geo g n img (whole_then geo g f n img) in
      let k = n + length ts in
      sym (cut-all k (frag_stores geo g f n img) img (omega (arith, frag-length geo g f img n)))
      ∙ frag_cut geo g f img k n
      ∙ ap (cut (k - n) ts) (maps-cut geo g f img k n ∙ ap (put_bits_at 1 img (free_at geo g img) f) (min-eq_right {n = n} {m = k} (omega arith)))
      ∙ cut-all (k - n) ts _ (omega arith)
      ∙ ap (λ (b : Bool). apply_all (frag_counts geo g n img b) (with_bits 1 geo g f n img)) e

  frags-part : whole_then geo g f n img ≡ false → Finished geo img (apply_all (frag_stores geo g f n img) img) g f n 0 1 0 0
  frags-part e =
      let m = back-made (as_bit-false e) in
      let fm = made-frame m in
      let l = r.group in
      ended (frags-after e ∙ pair_made _ _ _ _) m
      (written_count fm l (written_count fm l (written-total fm l (map-written m) Nffree (inr refl) _) Nffree (inr refl) _) Nbfree (inl refl) _)
      (untouched Nbfree refl refl refl (omega arith))
      (risen Nffree n refl refl (omega arith) (omega arith) (omega (arith, r.most, frag-most geo.frag r.frame.sizes.frag)))

  frags-whole : whole_then geo g f n img ≡ true → Finished geo img (apply_all (frag_stores geo g f n img) img) g f n 0 1 0 1
  frags-whole e =
      let m = back-made (as_bit-true e) in
      let fm = made-frame m in
      let l = r.group in
      ended (frags-after e ∙ pairs_made _ _ _ _ _ _) m
      (written_count fm l (written_count fm l (written-total fm l (written-total fm l (written-total fm l (map-written m) Nffree (inr refl) _) Nffree (inr refl) _) Nbfree (inl refl) _) Nffree (inr refl) _) Nbfree (inl refl) _)
      (risen Nbfree 1 refl refl refl refl (omega arith))
      (risen-fallen Nffree n geo.frag refl refl (omega arith) (omega arith) (omega (arith, r.most, frag-most geo.frag r.frame.sizes.frag)))

-- the whole block
module _ {geo : Geometry} {img : List ℕ} {g f : ℕ} (r : BackRun geo img g f geo.frag) (clear : bits_are 0 img (free_at geo g img) f geo.frag ≡ true) where
  pub block_made : RunMade geo img g f geo.frag 0 1 0 1
  block_made =
      let at = free_at geo g img in
      let b = r.within_block in
      let e : f ≡ geo.frag * (f / geo.frag) = omega (arith, div-add-mod f geo.frag) in
      let p = run-put 1 img at f geo.frag (omega arith) r.in_byte (run-byte r) in
      back-made r clear (as_bit-true (whole-is geo g f geo.frag img ∙ free-bits geo.frag (with_bits 1 geo g f geo.frag img) at (f / geo.frag) ∙ rw (← e) p))

  block-finished : Finished geo img (apply_all (block_stores geo g f img) img) g f geo.frag 0 1 0 1
  block-finished =
      let fm = made-frame block_made in
      let l = r.group in
      ended (three_made geo img 1 g f geo.frag (block_stores geo g f img) _ _ (block-length geo g f img) (block-cut geo g f img 3)) block_made
      (written_count fm l (written-total fm l (map-written block_made) Nbfree (inl refl) _) Nbfree (inl refl) _)
      (risen Nbfree 1 refl refl refl refl (omega arith))
      (untouched Nffree refl refl (omega arith) (omega (arith, frag-most geo.frag r.frame.sizes.frag)))

-- ---- the call, over its size

take-finished : (geo : Geometry) (img : List ℕ) → Frame geo img → (a size : ℕ) → Passed geo a size img
    → (is : ℕ) × Finished geo img (apply_all (take_stores geo a size img) img) (a / geo.fpg) (a % geo.fpg) (size / geo.fsize) 0 1 0 is
take-finished geo img fr a size p = go (ℕ_discrete (size / geo.fsize) geo.frag) (whole_then geo (a / geo.fpg) (a % geo.fpg) (size / geo.fsize) img) refl
  where
    r : BackRun geo img (a / geo.fpg) (a % geo.fpg) (size / geo.fsize)
    r = back-run geo a size img p.size_good p.within_block fr p.place

    go : Dec (size / geo.fsize ≡ geo.frag) → (whole : Bool) → whole_then geo (a / geo.fpg) (a % geo.fpg) (size / geo.fsize) img ≡ whole
        → (is : ℕ) × Finished geo img (apply_all (take_stores geo a size img) img) (a / geo.fpg) (a % geo.fpg) (size / geo.fsize) 0 1 0 is
    go (yes q) whole e = (1, rw (stores-block geo a size img refl refl q, q) (block-finished (rw q at r) (rw q at p.clear)))
    go (no q) true e = (1, rw (stores-frags geo a size img refl refl refl q) (frags-whole r p.clear e))
    go (no q) false e = (0, rw (stores-frags geo a size img refl refl refl q) (frags-part r p.clear e))

-- ---- what is relied on

-- 01: "They are true when ..": counts that are true before a block is given are true after it
pub true-give : (geo : Geometry) (img : List ℕ) → Frame geo img → TrueCounts geo img → (g h : ℕ) → IsChosen geo img g h → TrueCounts geo (apply_all (give_stores geo img g h) img)
true-give geo img fr t g h i = finished-true (give-finished geo img fr g h i) t

-- and so they are after a run is taken back
pub true-take : (geo : Geometry) (img : List ℕ) → Frame geo img → TrueCounts geo img → (a size : ℕ) → Passed geo a size img → TrueCounts geo (apply_all (take_stores geo a size img) img)
true-take geo img fr t a size p = finished-true (take-finished geo img fr a size p).1 t

-- 01: "less frag per block given"
pub free-give : (geo : Geometry) (img : List ℕ) → Frame geo img → (g h : ℕ) → IsChosen geo img g h → total_free geo (apply_all (give_stores geo img g h) img) + geo.frag ≡ total_free geo img
free-give geo img fr g h i = omega (arith, finished-free (give-finished geo img fr g h i))

-- 01: "plus the fragments taken back"
pub free-take : (geo : Geometry) (img : List ℕ) → Frame geo img → (a size : ℕ) → Passed geo a size img → total_free geo (apply_all (take_stores geo a size img) img) ≡ total_free geo img + size / geo.fsize
free-take geo img fr a size p = omega (arith, finished-free (take-finished geo img fr a size p).1)
