-- What is relied on of giving out: 28 exactly when, the first such block, the frame and the map at every cut. Assumes nothing.
use Rattle.std.specs.Prelude.{Option, Some, None, Result, Ok, Err}
use Rattle.std.proofs.Common.{◌≡◌, ℕ, zero, suc, ◌+◌, ◌-◌, ◌*◌, ◌/◌, ◌%◌, ◌<◌, ◌≤◌, min, Bool, true, false, ltb, ◌⊎◌, List, [], ◌∷◌, length, get_or, sym, refl, ap, ◌∙◌, subst, inl, inr, ⊎_elim, arith}
use Rattle.refusal.specs.declared.Refusal.TheVariants.{NoSpace}
use Rattle.store.specs.Store.{Store, apply, apply_all, apply_if, cut}
use Rattle.store.specs.Act.{Out, got, refused, Run, made, cut_act, cut_leaves}
use Rattle.store.proofs.CutLaws.{cut_act_lem, cut-none}
use Rattle.volume.specs.declared.Geometry.{Geometry}
use Rattle.volume.specs.declared.Count.TheVariants.{Nbfree}
use Rattle.volume.specs.Volume.{cg_at, count_at}
use Rattle.bits.specs.Bits.{block_free, first_free}
use Rattle.bits.proofs.UptoLaws.{true-not-false, first_missing, first_fails}
use Rattle.bits.proofs.CountLaws.{first-free-is}
use Rattle.sound.specs.Sound.{free_at}
use Rattle.frame.specs.Frame.{Frame}
use Rattle.frame.specs.Writes.{map_write, count_write, total_write}
use Rattle.frame.proofs.WriteLaws.{frame_if, count-frame, total-frame}
use Rattle.balloc_give.specs.Give.{positive, blocks_in, in_group, chosen, giving, give_stores, give_block, block_address, gave_out, gave_made}
use Rattle.balloc_give.proofs.GiveLaws.{passed, searched, choose-none, chosen-is, IsChosen, give-cut, map-kept, count-kept}
use Rattle.refusal.specs.declared.Refusal.{Refusal}
use Rattle.volume.specs.declared.FragNum.{FragNum}

-- ---- "28 for a block exactly when no group with a count above zero has an aligned, wholly free block"

-- no group with a count above zero has one
abbrev pub NoneFree : Geometry → List ℕ → Type 0
NoneFree geo img = (g : ℕ) → g < geo.ncg → positive (count_at geo.order Nbfree (cg_at geo g) img) ≡ true → (h : ℕ) → h < blocks_in geo g img → block_free geo.frag img (free_at geo g img) h ≡ false

none_in_group : (geo : Geometry) (img : List ℕ) (g : ℕ) → in_group geo img g ≡ None → positive (count_at geo.order Nbfree (cg_at geo g) img) ≡ true
    → (h : ℕ) → h < blocks_in geo g img → block_free geo.frag img (free_at geo g img) h ≡ false
none_in_group geo img g e p h l =
    first_missing _ 0 (blocks_in geo g img) (sym (first-free-is geo.frag img (free_at geo g img) (blocks_in geo g img)) ∙ sym (searched geo img g p) ∙ e) h (omega arith) (omega arith)

pub full-none : (geo : Geometry) (img : List ℕ) → (give_block geo img).out ≡ refused NoSpace → NoneFree geo img
unfolding give_block chosen
full-none geo img e = go (chosen geo img) refl e
  where
    go : (c : Option (ℕ × ℕ)) → chosen geo img ≡ c → (giving geo img c).out ≡ refused NoSpace → NoneFree geo img
    go None q e = λ g l p h b. none_in_group geo img g (choose-none geo img 0 geo.ncg q g (omega arith) (omega arith)) p h b
    go (Some (g, h)) q e = absurd (let z : ◌≡◌ {A = ℕ} 0 1 = cc in let y : ⊥ = omega arith in y)

pub none-full : (geo : Geometry) (img : List ℕ) → NoneFree geo img → (give_block geo img).out ≡ refused NoSpace
unfolding give_block
none-full geo img n = go (chosen geo img) refl
  where
    go : (c : Option (ℕ × ℕ)) → chosen geo img ≡ c → (giving geo img c).out ≡ refused NoSpace
    go None q = refl
    go (Some (g, h)) q = let i = chosen-is geo img g h q in absurd (true-not-false i.free (n g i.group i.counts h i.block))

-- ---- the block given is the first such, and its address

pub given-first : (geo : Geometry) (img : List ℕ) (a : ℕ) → (give_block geo img).out ≡ got a → (g : ℕ) × (h : ℕ) × IsChosen geo img g h × (a ≡ block_address geo g h)
unfolding give_block
given-first geo img a e = go (chosen geo img) refl e
  where
    go : (c : Option (ℕ × ℕ)) → chosen geo img ≡ c → (giving geo img c).out ≡ got a → (g : ℕ) × (h : ℕ) × IsChosen geo img g h × (a ≡ block_address geo g h)
    go None q e = absurd (let z : ◌≡◌ {A = ℕ} 0 1 = cc in let y : ⊥ = omega arith in y)
    go (Some (g, h)) q e = (g, h, chosen-is geo img g h q, (cc))

-- ---- the frame at every cut

pub give-frame : (geo : Geometry) (img : List ℕ) → Frame geo img → (k : ℕ) → Frame geo (cut_act k (give_block geo) img)
unfolding give_block
give-frame geo img fr k = rw (cut_act_lem k (give_block geo) img) (go (chosen geo img) refl)
  where
    go : (c : Option (ℕ × ℕ)) → chosen geo img ≡ c → Frame geo (cut k (giving geo img c).stores img)
    go None q = rw (cut-none k img) fr
    go (Some (g, h)) q =
        let i = chosen-is geo img g h q in
        let m = map-kept geo img fr g h i.group i.block (ltb 0 k) in
        let n = count-kept geo _ m (ltb 1 k) g _ i.group in
        rw (give-cut k geo img g h) (frame_if geo _ (ltb 2 k) _ n (total-frame geo _ n Nbfree _))

-- ---- answers that meet the promise coincide

pub gave_same : (a b : Result (FragNum × ℕ) Refusal) → gave_out a ≡ gave_out b → gave_made a ≡ gave_made b → a ≡ b
gave_same (Ok (a, m)) (Ok (b, n)) e q =
    let z : a.0 ≡ b.0 = cc in
    let y : a ≡ b = λ i. record { 0 = z i } in
    cc
gave_same (Ok (a, m)) (Err f) e q = absurd (let z : ◌≡◌ {A = ℕ} 0 1 = cc in let y : ⊥ = omega arith in y)
gave_same (Err f) (Ok (b, n)) e q = absurd (let z : ◌≡◌ {A = ℕ} 0 1 = cc in let y : ⊥ = omega arith in y)
gave_same (Err e) (Err f) p q = cc
