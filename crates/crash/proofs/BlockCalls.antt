-- The block calls have the shape: a block given, a block back, fragments back; and the theorem of demand 3. Assumes nothing.
use Rattle.std.specs.Prelude.{Option, Some, None, Result, Ok, Err}
use mathlib.Core.Path.{◌≡◌, refl, sym, ap, subst, ◌∙◌}
use mathlib.Core.Bool.{Bool, true, false}
use mathlib.Core.List.{List, [], ◌∷◌, ◌++◌}
use mathlib.Core.Logic.{◌⊎◌, inl, inr, ⊎_elim}
use Prim.Native.Nat.{ℕ, zero, suc, ◌+◌, ◌-◌, ◌*◌, ◌/◌, ◌%◌, ◌^◌, ◌≤◌, ◌<◌, min}
use native.Mathlib.Nat.{min-eq_left}
use native.Mathlib.Omega.{arith}
use native.Mathlib.Decide.{ℕ_discrete}
use lib.ListN.{length, get_or}
use lib.Dec.{ltb}
use Rattle.field.specs.Field.{Kept}
use Rattle.field.proofs.Laws.{kept-refl, kept_wider}
use Rattle.store.specs.Store.{Store, apply, apply_all, apply_if, cut}
use Rattle.store.specs.Where.{All, none, more}
use Rattle.store.specs.Act.{Run}
use Rattle.store.proofs.StoreLaws.{apply_if-yes, apply_if_no}
use Rattle.store.proofs.CutLaws.{cut-row, cut-zero}
use Rattle.volume.specs.declared.Geometry.{Geometry}
use Rattle.volume.specs.declared.Volume.{Volume}
use Rattle.volume.specs.declared.Count.TheVariants.{Nbfree, Nffree}
use Rattle.volume.specs.Volume.{geometry_of, cg_at, count_at, total_at, counts_of, totals_of}
use Rattle.bits.specs.Bits.{bits_are, put_bits_at}
use Rattle.bits.proofs.UptoLaws.{as_bit-true, as_bit-false}
use Rattle.bits.proofs.BitsLaws.{frag-most, kept-put_bits_at}
use Rattle.sound.specs.Clauses.{soundb}
use Rattle.sound.specs.Test.{taken_of}
use Rattle.sound.specs.Sound.{group_at, free_at}
use Rattle.frame.specs.Frame.{Frame}
use Rattle.frame.specs.Writes.{map_write, count_write, total_write, up, down}
use Rattle.frame.proofs.Places.{frame-of}
use Rattle.frame.proofs.SoundKept.{marked-of, bounded-of}
use Rattle.frame.proofs.WriteLaws.{apply-map, up-fits, down-fits}
use Rattle.balloc_give.specs.Give.{chosen, giving, give_stores, give_block}
use Rattle.balloc_give.proofs.GiveLaws.{IsChosen, chosen-is}
use Rattle.balloc_take.specs.Take.{good_size, take_test, block_stores, frag_maps, frag_counts, count_stores, frag_stores, take_stores, whole_then, group_count, take_back}
use Rattle.balloc_take.specs.Run.{BackRun}
use Rattle.balloc_take.proofs.TestLaws.{Passed, test_good, good-run}
use Rattle.balloc_take.proofs.TakeLaws.{maps-length, maps-cut, maps-kept, stores-block, stores-frags, back-zero, back-good, back-bad}
use Rattle.balloc_count.specs.Recount.{TrueCounts}
use Rattle.balloc_count.proofs.FreshLaws.{blocks-small, loose-small, total-blocks-small, total-loose-small}
use Rattle.balloc.specs.Calls.{blk_alloc, blk_free}
use Rattle.balloc.proofs.CallLaws.{alloc-is, alloc-bad, free-is}
use Rattle.crash.specs.Crash.{Call, give, take, call_stores, cut_run, MapByte, MagicApart, CutCall, not_made, made, first_few, Recovered, Survives}
use Rattle.crash.proofs.RunLaws.{RunMade, made-frame, blocks-moved, loose-moved, total-blocks-moved, total-loose-moved}
use Rattle.crash.proofs.TrueKept.{give-made, back-made, block_made, true-give, true-take}
use Rattle.crash.proofs.Shape as shape
use Rattle.crash.proofs.Shape.{SmallWrite, Shaped, Held}
use Rattle.crash.proofs.Demand.{Going, CallCut, going_taken, run-cut}
use Rattle.crash.proofs.Calls.{nothing_stored, shape-stored}
use Rattle.refusal.specs.declared.Refusal.{Refusal}

-- ---- map bytes, cut anywhere

-- bits of a run put lie in the map's bytes
run-kept : {geo : Geometry} {img : List ℕ} {g f n : ℕ} → BackRun geo img g f n → (v m : ℕ) → Kept (free_at geo g img) (((group_at geo g img).ndblk + 7) / 8) img (put_bits_at v img (free_at geo g img) f m)
run-kept {geo} {img} {g} {f} r v m =
    let w = r.within in
    let o = r.some in
    kept_wider (free_at geo g img) (((group_at geo g img).ndblk + 7) / 8) (omega arith) (omega arith) (kept-put_bits_at v img (free_at geo g img) f m)

-- one map byte
one-map : {geo : Geometry} {img : List ℕ} {g f n u v was is : ℕ} → RunMade geo img g f n u v was is → (i : ℕ)
    → Frame geo (cut i ((map_write v geo g f n img ∷ []) ∷ []) img) × Kept (free_at geo g img) (((group_at geo g img).ndblk + 7) / 8) img (cut i ((map_write v geo g f n img ∷ []) ∷ []) img)
one-map {geo} {img} {g} {f} {n} {v = v} r i = rw (cut-row i ((map_write v geo g f n img ∷ []) ∷ []) img) (go (ltb 0 i) refl)
  where
    go : (b : Bool) → ltb 0 i ≡ b
        → Frame geo (apply_if b (map_write v geo g f n img ∷ []) img) × Kept (free_at geo g img) (((group_at geo g img).ndblk + 7) / 8) img (apply_if b (map_write v geo g f n img ∷ []) img)
    go true e = rw (apply_if-yes {go = true} refl (map_write v geo g f n img ∷ []) img, apply-map geo img v g f n) (made-frame r, run-kept r.run v n)
    go false e = rw (apply_if_no {go = false} refl (map_write v geo g f n img ∷ []) img) (r.run.frame, kept-refl _ _ img)

-- the map bytes of a run of fragments
run-maps : {geo : Geometry} {img : List ℕ} {g f n : ℕ} → BackRun geo img g f n → (i : ℕ)
    → Frame geo (cut i (frag_maps geo g f img n) img) × Kept (free_at geo g img) (((group_at geo g img).ndblk + 7) / 8) img (cut i (frag_maps geo g f img n) img)
run-maps {geo} {img} {g} {f} {n} r i = (maps-kept r i refl, rw (maps-cut geo g f img i n) (run-kept r 1 (min i n)))

-- ---- the numbers written are small

module _ (geo : Geometry) (img : List ℕ) (fr : Frame geo img) (t : TrueCounts geo img) where
  module _ (g h : ℕ) (i : IsChosen geo img g h) where
    give-shape : Shaped geo img ((map_write 0 geo g (geo.frag * h) geo.frag img ∷ []) ∷ [])
        ((count_write geo g Nbfree (down 4 (count_at geo.order Nbfree (cg_at geo g) img) 1) ∷ []) ∷ (total_write geo Nbfree (down 8 (total_at geo.order Nbfree img) 1) ∷ []) ∷ [])
    give-shape =
        let m = give-made geo img fr g h i in
        let b = blocks-small geo img fr g i.group in
        let e = t.nbfree g i.group in
        let d = (blocks-moved m).here in
        let tb = total-blocks-small geo img fr in
        let te = t.total_nbfree in
        let td = total-blocks-moved m in
        let c4 = down-fits 4 (count_at geo.order Nbfree (cg_at geo g) img) 1 (omega arith) (omega arith) in
        let c8 = down-fits 8 (total_at geo.order Nbfree img) 1 (omega arith) (omega arith) in
        record {
          group = g;
          in_volume = i.group;
          mids = one-map m;
          small = more (more (shape.count g Nbfree (down 4 (count_at geo.order Nbfree (cg_at geo g) img) 1) i.group (inl refl) (omega arith)) none) (more (more (shape.total Nbfree (down 8 (total_at geo.order Nbfree img) 1) (inl refl) (omega arith)) none) none);
        }

  module _ {g f : ℕ} (r : BackRun geo img g f geo.frag) (clear : bits_are 0 img (free_at geo g img) f geo.frag ≡ true) where
    block-shape : Shaped geo img ((map_write 1 geo g f geo.frag img ∷ []) ∷ [])
        ((total_write geo Nbfree (up 8 (total_at geo.order Nbfree img) 1) ∷ []) ∷ (count_write geo g Nbfree (up 4 (count_at geo.order Nbfree (cg_at geo g) img) 1) ∷ []) ∷ [])
    block-shape =
        let b = blocks-small geo img fr g r.group in
        let e = t.nbfree g r.group in
        let tb = total-blocks-small geo img fr in
        let te = t.total_nbfree in
        let c4 = up-fits 4 (count_at geo.order Nbfree (cg_at geo g) img) 1 (omega arith) in
        let c8 = up-fits 8 (total_at geo.order Nbfree img) 1 (omega arith) in
        record {
          group = g;
          in_volume = r.group;
          mids = one-map (block_made r clear);
          small = more (more (shape.total Nbfree (up 8 (total_at geo.order Nbfree img) 1) (inl refl) (omega arith)) none) (more (more (shape.count g Nbfree (up 4 (count_at geo.order Nbfree (cg_at geo g) img) 1) r.group (inl refl) (omega arith)) none) none);
        }

  module _ {g f n : ℕ} (r : BackRun geo img g f n) (clear : bits_are 0 img (free_at geo g img) f n ≡ true) where
    frags-small : (whole : Bool) → whole_then geo g f n img ≡ whole → All (All (SmallWrite geo)) (frag_counts geo g n img whole)
    frags-small false e =
        let q = r.most in
        let p = frag-most geo.frag fr.sizes.frag in
        let b = blocks-small geo img fr g r.group in
        let eb = t.nbfree g r.group in
        let l = loose-small geo img fr g r.group in
        let el = t.nffree g r.group in
        let tl = total-loose-small geo img fr in
        let etl = t.total_nffree in
        let c4 = up-fits 4 (count_at geo.order Nffree (cg_at geo g) img) n (omega arith) in
        let c8 = up-fits 8 (total_at geo.order Nffree img) n (omega arith) in
        more (more (shape.total Nffree (up 8 (total_at geo.order Nffree img) n) (inr refl) (omega arith)) none)
        (more (more (shape.count g Nffree (up 4 (count_at geo.order Nffree (cg_at geo g) img) n) r.group (inr refl) (omega arith)) (more (shape.count g Nbfree (count_at geo.order Nbfree (cg_at geo g) img) r.group (inl refl) (omega arith)) none)) none)
    frags-small true e =
        let m = back-made r clear (as_bit-true e) in
        let q = r.most in
        let p = frag-most geo.frag fr.sizes.frag in
        let b = blocks-small geo img fr g r.group in
        let eb = t.nbfree g r.group in
        let l = loose-small geo img fr g r.group in
        let el = t.nffree g r.group in
        let dl = (loose-moved m).here in
        let tb = total-blocks-small geo img fr in
        let etb = t.total_nbfree in
        let tl = total-loose-small geo img fr in
        let etl = t.total_nffree in
        let dtl = total-loose-moved m in
        let u4 = up-fits 4 (count_at geo.order Nffree (cg_at geo g) img) n (omega arith) in
        let u8 = up-fits 8 (total_at geo.order Nffree img) n (omega arith) in
        let d4 = down-fits 4 (up 4 (count_at geo.order Nffree (cg_at geo g) img) n) geo.frag (omega arith) (omega arith) in
        let d8 = down-fits 8 (up 8 (total_at geo.order Nffree img) n) geo.frag (omega arith) (omega arith) in
        let b4 = up-fits 4 (count_at geo.order Nbfree (cg_at geo g) img) 1 (omega arith) in
        let b8 = up-fits 8 (total_at geo.order Nbfree img) 1 (omega arith) in
        more (more (shape.total Nffree (up 8 (total_at geo.order Nffree img) n) (inr refl) (omega arith)) none)
        (more (more (shape.total Nffree (down 8 (up 8 (total_at geo.order Nffree img) n) geo.frag) (inr refl) (omega arith)) (more (shape.total Nbfree (up 8 (total_at geo.order Nbfree img) 1) (inl refl) (omega arith)) none))
        (more (more (shape.count g Nffree (down 4 (up 4 (count_at geo.order Nffree (cg_at geo g) img) n) geo.frag) r.group (inr refl) (omega arith)) (more (shape.count g Nbfree (up 4 (count_at geo.order Nbfree (cg_at geo g) img) 1) r.group (inl refl) (omega arith)) none)) none))

    frags-shape : Shaped geo img (frag_maps geo g f img n) (frag_counts geo g n img (whole_then geo g f n img))
    frags-shape = record { group = g; in_volume = r.group; mids = run-maps r; small = frags-small (whole_then geo g f n img) refl }

-- ---- each call, cut anywhere

-- the stores of a run
made-stores : {A : Type 0} {r q : Run A} → r ≡ q → r.stores ≡ q.stores
made-stores e = rw e

give-stores : (geo : Geometry) (z : List ℕ) (g h : ℕ) → chosen geo z ≡ Some (g, h)
    → (give_block geo z).stores
    ≡ ((map_write 0 geo g (geo.frag * h) geo.frag z ∷ []) ∷ [])
    ++ ((count_write geo g Nbfree (down 4 (count_at geo.order Nbfree (cg_at geo g) z) 1) ∷ []) ∷ (total_write geo Nbfree (down 8 (total_at geo.order Nbfree z) 1) ∷ []) ∷ [])
unfolding give_block give_stores
give-stores geo z g h e = rw e

give-nothing : (geo : Geometry) (z : List ℕ) → chosen geo z ≡ None → (give_block geo z).stores ≡ []
unfolding give_block
give-nothing geo z e = rw e

-- nothing of a call is made before its one map byte
before-one : (vol : Volume) (geo : Geometry) (z : List ℕ) (c : Call) (cs : List Call) (s : Store) (k : ℕ) → k < 1 → CutCall vol geo z (c ∷ cs) (cut k (s ∷ []) z)
before-one vol geo z c cs s k l = let q : k ≡ 0 = omega arith in rw (q, cut-zero (s ∷ []) z) (not_made (c ∷ cs))

block-stores : (geo : Geometry) (a size : ℕ) (z : List ℕ) → size / geo.fsize ≡ geo.frag
    → take_stores geo a size z
    ≡ ((map_write 1 geo (a / geo.fpg) (a % geo.fpg) geo.frag z ∷ []) ∷ [])
    ++ ((total_write geo Nbfree (up 8 (total_at geo.order Nbfree z) 1) ∷ []) ∷ (count_write geo (a / geo.fpg) Nbfree (up 4 (count_at geo.order Nbfree (cg_at geo (a / geo.fpg)) z) 1) ∷ []) ∷ [])
unfolding block_stores
block-stores geo a size z q = stores-block geo a size z refl refl q

frag-stores : (geo : Geometry) (a size : ℕ) (z : List ℕ) → (size / geo.fsize ≡ geo.frag → ⊥)
    → take_stores geo a size z
    ≡ frag_maps geo (a / geo.fpg) (a % geo.fpg) z (size / geo.fsize) ++ frag_counts geo (a / geo.fpg) (size / geo.fsize) z (whole_then geo (a / geo.fpg) (a % geo.fpg) (size / geo.fsize) z)
unfolding frag_stores
frag-stores geo a size z q = stores-frags geo a size z refl refl refl q

-- the first k fragments of a run are back
few-frags : (vol : Volume) (geo : Geometry) (a size : ℕ) (z : List ℕ) (k : ℕ) (cs : List Call) → k < length (frag_maps geo (a / geo.fpg) (a % geo.fpg) z (size / geo.fsize))
    → CutCall vol geo z (take a size ∷ cs) (cut k (frag_maps geo (a / geo.fpg) (a % geo.fpg) z (size / geo.fsize)) z)
few-frags vol geo a size z k cs l =
    let n = size / geo.fsize in
    let e = maps-length geo (a / geo.fpg) (a % geo.fpg) z n in
    let m : min k n ≡ k = min-eq_left (omega arith) in
    rw (maps-cut geo (a / geo.fpg) (a % geo.fpg) z k n, m) (first_few a size k cs (omega arith))

module _ (vol : Volume) (geo : Geometry) (start z : List ℕ) (w : vol.writable ≡ true) (s : Going geo start z) where
  fr : Frame geo z
  fr = s.held.frame

  taken : taken_of z ≡ Ok geo
  taken = going_taken geo z s.held s.marked

  give-call : (size : ℕ) → CallCut vol geo start z (give size)
  unfolding give_stores
  give-call size = sized (good_size geo size) refl
    where
      picked : good_size geo size ≡ true → (c : Option (ℕ × ℕ)) → chosen geo z ≡ c → CallCut vol geo start z (give size)
      picked b None e = nothing_stored vol geo start z s (give size) (made-stores (alloc-is vol size 0 z geo taken w b) ∙ give-nothing geo z e)
      picked b (Some (g, h)) e =
          let i = chosen-is geo z g h e in
          shape-stored vol geo start z s (give size) _ _ (made-stores (alloc-is vol size 0 z geo taken w b) ∙ give-stores geo z g h e) (give-shape geo z fr s.counts g h i)
          (true-give geo z fr s.counts g h i) (λ k cs l. before-one vol geo z (give size) cs _ k l)

      sized : (b : Bool) → good_size geo size ≡ b → CallCut vol geo start z (give size)
      sized false b = nothing_stored vol geo start z s (give size) (made-stores (alloc-bad vol size 0 z geo taken w b))
      sized true b = picked b (chosen geo z) refl

  module _ (a size : ℕ) where
    back : (nz : a ≡ 0 → ⊥) → take_test geo a size z ≡ Ok tt → Passed geo a size z → Dec (size / geo.fsize ≡ geo.frag) → CallCut vol geo start z (take a size)
    back nz j p (yes q) =
        let e = block-stores geo a size z q in
        let r = subst (λ (n : ℕ). BackRun geo z (a / geo.fpg) (a % geo.fpg) n) q (good-run geo a size z j fr) in
        let clear = subst (λ (n : ℕ). bits_are 0 z (free_at geo (a / geo.fpg) z) (a % geo.fpg) n ≡ true) q p.clear in
        shape-stored vol geo start z s (take a size) _ _ (made-stores (free-is vol a size 0 z geo taken w ∙ back-good geo a size z nz j) ∙ e) (block-shape geo z fr s.counts r clear)
        (subst (λ (ss : List Store). TrueCounts geo (apply_all ss z)) e (true-take geo z fr s.counts a size p)) (λ k cs l. before-one vol geo z (take a size) cs _ k l)
    back nz j p (no q) =
        let e = frag-stores geo a size z q in
        let r = good-run geo a size z j fr in
        shape-stored vol geo start z s (take a size) _ _ (made-stores (free-is vol a size 0 z geo taken w ∙ back-good geo a size z nz j) ∙ e) (frags-shape geo z fr s.counts r p.clear)
        (subst (λ (ss : List Store). TrueCounts geo (apply_all ss z)) e (true-take geo z fr s.counts a size p)) (λ k cs l. few-frags vol geo a size z k cs l)

    take-call : CallCut vol geo start z (take a size)
    take-call = at (ℕ_discrete a 0)
      where
        judged : (a ≡ 0 → ⊥) → (j : Result (Unit {0}) Refusal) → take_test geo a size z ≡ j → CallCut vol geo start z (take a size)
        judged nz (Err n) e = nothing_stored vol geo start z s (take a size) (made-stores (free-is vol a size 0 z geo taken w ∙ back-bad geo a size z nz e))
        judged nz (Ok u) e = back nz e (test_good geo a size z e) (ℕ_discrete (size / geo.fsize) geo.frag)

        at : Dec (a ≡ 0) → CallCut vol geo start z (take a size)
        at (yes e) = nothing_stored vol geo start z s (take a size) (made-stores (free-is vol a size 0 z geo taken w ∙ back-zero geo a size z e))
        at (no e) = judged e (take_test geo a size z) refl

  pub call-cut : (c : Call) → CallCut vol geo start z c
  call-cut (give size) = give-call size
  call-cut (take a size) = take-call a size
