-- The laws of `specs/Calls.antt`: what a call is once its volume has been tested, and what each leaves. Assumes nothing.
use Rattle.std.specs.Prelude.{Result, Ok, Err}
use mathlib.Core.Path.{◌≡◌, refl, sym, ap, subst, ◌∙◌}
use mathlib.Core.Bool.{Bool, true, false}
use mathlib.Core.List.{List, []}
use mathlib.Core.Logic.{◌⊎◌, inl, inr}
use Prim.Native.Nat.{ℕ, min, ◌≤◌, ◌<◌}
use native.Mathlib.Nat.{min-zero, min-eq_right}
use native.Mathlib.Omega.{arith}
use lib.ListN.{length}
use Rattle.refusal.specs.declared.Refusal.{Refusal}
use Rattle.refusal.specs.declared.Refusal.TheVariants.{Damaged, ReadOnly, Invalid}
use Rattle.store.specs.Store.{apply_all}
use Rattle.store.specs.Act.{Out, got, refused, Run, Act, refuse, choose, leaves, made, cut_act, cut_leaves}
use Rattle.store.proofs.ActLaws.{left_out, left-image, leaves-refuse}
use Rattle.store.proofs.StoreLaws.{apply_all-none}
use Rattle.store.proofs.CutLaws.{cut-whole, cut_act_lem, cut-none}
use Rattle.volume.specs.declared.Geometry.{Geometry}
use Rattle.volume.specs.declared.Volume.{Volume}
use Rattle.volume.specs.Volume.{geometry_of}
use Rattle.bits.proofs.UptoLaws.{true-not-false}
use Rattle.sound.specs.Clauses.{soundb}
use Rattle.sound.specs.Test.{taken_of}
use Rattle.sound.proofs.Laws.{taken-not, taken-yes}
use Rattle.frame.specs.Frame.{Frame}
use Rattle.frame.proofs.Places.{frame-of}
use Rattle.balloc_give.specs.Give.{give_block}
use Rattle.balloc_give.proofs.GiveLaws.{give-most}
use Rattle.balloc_take.specs.Take.{good_size, take_back}
use Rattle.balloc_take.proofs.MostLaws.{take-most}
use Rattle.balloc_count.specs.declared.Fresh.{Fresh}
use Rattle.balloc_count.specs.Recount.{recount_all, recount_stores}
use Rattle.balloc.specs.Calls.{entering, writing, blk_alloc, blk_free, recount, given_of, freed_of, recounted_of, cut_answer, plain_answer, alloc_cut, free_cut, alloc_plain, free_plain, recount_plain}
use Rattle.refusal.specs.Refusal.{damage}
use Rattle.refusal.specs.declared.Damage.{Damage}
use Rattle.volume.specs.declared.FragNum.{FragNum}

-- ---- the volume

-- a volume that is taken is sound, and its geometry is the image's
pub taken-is : (img : List ℕ) (geo : Geometry) → taken_of img ≡ Ok geo → (soundb img ≡ true) × (geometry_of img ≡ geo)
taken-is img geo e = go (soundb img) refl
  where
    go : (b : Bool) → soundb img ≡ b → (soundb img ≡ true) × (geometry_of img ≡ geo)
    go true h = let q = taken-yes img h in (h, (cc))
    go false h = let q = taken-not img h in absurd (let z : ◌≡◌ {A = ℕ} 0 1 = cc in let y : ⊥ = omega arith in y)

pub taken-frame : (img : List ℕ) (geo : Geometry) → taken_of img ≡ Ok geo → Frame geo img
taken-frame img geo e = let t = taken-is img geo e in subst (λ (g : Geometry). Frame g img) t.1 (frame-of img t.0)

module _ {A : Type 0} (vol : Volume) (f : Geometry → Act A) (img : List ℕ) where
  pub when-unsound : taken_of img ≡ Err damage → writing vol f img ≡ record { stores = []; out = refused Damaged }
  unfolding writing refuse
  when-unsound e = rw e

  pub when-read-only : (geo : Geometry) → taken_of img ≡ Ok geo → vol.writable ≡ false → writing vol f img ≡ record { stores = []; out = refused ReadOnly }
  unfolding writing choose refuse
  when-read-only geo e w = rw (e, w)

  pub when-taken : (geo : Geometry) → taken_of img ≡ Ok geo → vol.writable ≡ true → writing vol f img ≡ f geo img
  unfolding writing choose
  when-taken geo e w = rw (e, w)

  -- a writing call refuses a volume that is unsound or read-only, and stores nothing; any other it enters
  pub entered : ((e : Refusal) × (writing vol f img ≡ record { stores = []; out = refused e })) ⊎ ((geo : Geometry) × (taken_of img ≡ Ok geo) × (vol.writable ≡ true))
  entered = go (taken_of img) refl vol.writable refl
    where
      go : (t : Result Geometry Damage) → taken_of img ≡ t → (w : Bool) → vol.writable ≡ w
          → ((e : Refusal) × (writing vol f img ≡ record { stores = []; out = refused e })) ⊎ ((geo : Geometry) × (taken_of img ≡ Ok geo) × (vol.writable ≡ true))
      go (Err harm) e w q = inl (Damaged, when-unsound e)
      go (Ok geo) e true q = inr (geo, e, q)
      go (Ok geo) e false q = inl (ReadOnly, when-read-only geo e q)

-- ---- what any call leaves and answers

module _ {A B : Type 0} (f : Out A → ℕ → B) (m : Act A) (img : List ℕ) where
  refused-cut : (k : ℕ) (e : Refusal) → m img ≡ record { stores = []; out = refused e } → (img, f (refused e) 0) ≡ cut_answer f k m img
  refused-cut k e q = rw (cut_act_lem k m img, q, cut-none k img, min-zero k)

  refused-plain : (e : Refusal) → m img ≡ record { stores = []; out = refused e } → (img, f (refused e) 0) ≡ plain_answer f m img
  unfolding leaves
  refused-plain e q = rw (q, apply_all-none img)

  -- from what the work leaves, where past the tests the call is the work
  done-cut : (k : ℕ) (work : Act A) → m img ≡ work img → (s : List ℕ) (o : Out A) (n : ℕ) → (s, o, n) ≡ cut_leaves k work img → (s, f o n) ≡ cut_answer f k m img
  unfolding cut_act
  done-cut k work e s o n q = ap (λ (t : List ℕ × Out A × ℕ). (t.0, f t.1 t.2)) q ∙ rw e

  -- a number above all its stores
  plain-cut : (k : ℕ) → made m img ≤ k → cut_answer f k m img ≡ plain_answer f m img
  plain-cut k l =
      let n : min k (made m img) ≡ made m img = min-eq_right l in
      rw (cut-whole k m img l, n)

-- ---- the recount

module _ (vol : Volume) (img : List ℕ) where
  pub recount-unsound : taken_of img ≡ Err damage → ◌≡◌ {A = List ℕ × (Result (ℕ × ℕ × Volume) Refusal)} (img, Err Damaged) (recount_plain vol img)
  unfolding recount_plain recount
  recount-unsound e = refused-plain (recounted_of vol) (recount vol) img Damaged (when-unsound vol recount_all img e)

  pub recount-read-only : (geo : Geometry) → taken_of img ≡ Ok geo → vol.writable ≡ false → ◌≡◌ {A = List ℕ × (Result (ℕ × ℕ × Volume) Refusal)} (img, Err ReadOnly) (recount_plain vol img)
  unfolding recount_plain recount
  recount-read-only geo e w = refused-plain (recounted_of vol) (recount vol) img ReadOnly (when-read-only vol recount_all img geo e w)

  pub recount-done : (geo : Geometry) → taken_of img ≡ Ok geo → vol.writable ≡ true → (s : List ℕ) (r : Fresh) → (s, got r) ≡ leaves (recount_all geo) img
      → ◌≡◌ {A = List ℕ × (Result (ℕ × ℕ × Volume) Refusal)} (s, Ok (r.nbfree, r.nffree, vol)) (recount_plain vol img)
  unfolding recount_plain recount leaves
  recount-done geo e w s r q =
      rw (when-taken vol recount_all img geo e w, left_out (recount_all geo) img q, left-image (recount_all geo) img q)

-- the image that a recount leaves
pub recount-is : (vol : Volume) (img : List ℕ) (geo : Geometry) → taken_of img ≡ Ok geo → vol.writable ≡ true → (leaves (recount vol) img).0 ≡ apply_all (recount_stores geo img) img
unfolding recount leaves recount_all
recount-is vol img geo e w = rw (when-taken vol recount_all img geo e w)

-- ---- giving out

module _ (vol : Volume) (size k : ℕ) (img : List ℕ) where
  answers : Out ℕ → ℕ → Result (FragNum × ℕ × ℕ × Volume) Refusal
  answers = given_of vol (geometry_of img).bsize

  pub alloc-unsound : taken_of img ≡ Err damage → ◌≡◌ {A = List ℕ × (Result (FragNum × ℕ × ℕ × Volume) Refusal)} (img, Err Damaged) (alloc_cut vol size k img)
  unfolding alloc_cut blk_alloc answers
  alloc-unsound e = refused-cut answers (blk_alloc vol size) img k Damaged (when-unsound vol _ img e)

  module _ (geo : Geometry) (e : taken_of img ≡ Ok geo) where
    pub alloc-read-only : vol.writable ≡ false → ◌≡◌ {A = List ℕ × (Result (FragNum × ℕ × ℕ × Volume) Refusal)} (img, Err ReadOnly) (alloc_cut vol size k img)
    unfolding alloc_cut blk_alloc answers
    alloc-read-only w = refused-cut answers (blk_alloc vol size) img k ReadOnly (when-read-only vol _ img geo e w)

    pub alloc-bad : vol.writable ≡ true → good_size geo size ≡ false → blk_alloc vol size img ≡ record { stores = []; out = refused Invalid }
    unfolding blk_alloc choose refuse
    alloc-bad w g = when-taken vol _ img geo e w ∙ rw g

    pub alloc-bad-size : vol.writable ≡ true → good_size geo size ≡ false → ◌≡◌ {A = List ℕ × (Result (FragNum × ℕ × ℕ × Volume) Refusal)} (img, Err Invalid) (alloc_cut vol size k img)
    unfolding alloc_cut answers
    alloc-bad-size w g = refused-cut answers (blk_alloc vol size) img k Invalid (alloc-bad w g)

    -- past the tests the call is the giving
    pub alloc-is : vol.writable ≡ true → good_size geo size ≡ true → blk_alloc vol size img ≡ give_block geo img
    unfolding blk_alloc choose
    alloc-is w g = when-taken vol _ img geo e w ∙ rw g

    pub alloc-done : vol.writable ≡ true → good_size geo size ≡ true → (s : List ℕ) (o : Out ℕ) (n bsize : ℕ) → (s, o, n) ≡ cut_leaves k (give_block geo) img → bsize ≡ geo.bsize
        → (s, given_of vol bsize o n) ≡ alloc_cut vol size k img
    unfolding alloc_cut
    alloc-done w g s o n bsize q b =
        done-cut (given_of vol bsize) (blk_alloc vol size) img k (give_block geo) (alloc-is w g) s o n q ∙ rw (b ∙ ap (λ (x : Geometry). x.bsize) (sym (taken-is img geo e).1))

pub alloc_entered : (vol : Volume) (size : ℕ) (img : List ℕ)
    → ((e : Refusal) × (blk_alloc vol size img ≡ record { stores = []; out = refused e })) ⊎ ((geo : Geometry) × (taken_of img ≡ Ok geo) × (vol.writable ≡ true))
unfolding blk_alloc
alloc_entered vol size img = entered vol _ img

-- a number above all its stores
pub alloc_plain_lem : (vol : Volume) (size k : ℕ) (img : List ℕ) → made (blk_alloc vol size) img ≤ k → alloc_cut vol size k img ≡ alloc_plain vol size img
unfolding alloc_cut alloc_plain
alloc_plain_lem vol size k img l = plain-cut (given_of vol (geometry_of img).bsize) (blk_alloc vol size) img k l

-- a writing call makes no more stores than its work
pub writing-most : {A : Type 0} (vol : Volume) (f : Geometry → Act A) (img : List ℕ) (n : ℕ) → ((geo : Geometry) → taken_of img ≡ Ok geo → made (f geo) img ≤ n) → made (writing vol f) img ≤ n
writing-most vol f img n h = go (taken_of img) refl vol.writable refl
  where
    go : (t : Result Geometry Damage) → taken_of img ≡ t → (w : Bool) → vol.writable ≡ w → made (writing vol f) img ≤ n
    go (Err harm) e w q = rw (when-unsound vol f img e) (omega arith)
    go (Ok geo) e true q = rw (when-taken vol f img geo e q) (h geo e)
    go (Ok geo) e false q = rw (when-read-only vol f img geo e q) (omega arith)

sized-most : (geo : Geometry) (img : List ℕ) (b : Bool) → made (choose b (give_block geo) (refuse Invalid)) img ≤ 3
unfolding choose refuse
sized-most geo img true = give-most geo img
sized-most geo img false = omega arith

pub alloc_most : (vol : Volume) (size : ℕ) (img : List ℕ) → made (blk_alloc vol size) img ≤ 3
unfolding blk_alloc
alloc_most vol size img = writing-most vol _ img 3 (λ geo _. sized-most geo img (good_size geo size))

-- ---- taking back

module _ (vol : Volume) (a size k : ℕ) (img : List ℕ) where
  pub free-unsound : taken_of img ≡ Err damage → ◌≡◌ {A = List ℕ × (Result (ℕ × Volume) Refusal)} (img, Err Damaged) (free_cut vol a size k img)
  unfolding free_cut blk_free
  free-unsound e = refused-cut (freed_of vol) (blk_free vol a size) img k Damaged (when-unsound vol _ img e)

  module _ (geo : Geometry) (e : taken_of img ≡ Ok geo) where
    pub free-read-only : vol.writable ≡ false → ◌≡◌ {A = List ℕ × (Result (ℕ × Volume) Refusal)} (img, Err ReadOnly) (free_cut vol a size k img)
    unfolding free_cut blk_free
    free-read-only w = refused-cut (freed_of vol) (blk_free vol a size) img k ReadOnly (when-read-only vol _ img geo e w)

    -- past the tests the call is the taking back
    pub free-is : vol.writable ≡ true → blk_free vol a size img ≡ take_back geo a size img
    unfolding blk_free
    free-is w = when-taken vol _ img geo e w

    pub free-done : vol.writable ≡ true → (s : List ℕ) (o : Out (Unit {0})) (n : ℕ) → (s, o, n) ≡ cut_leaves k (take_back geo a size) img → (s, freed_of vol o n) ≡ free_cut vol a size k img
    unfolding free_cut
    free-done w s o n q = done-cut (freed_of vol) (blk_free vol a size) img k (take_back geo a size) (free-is w) s o n q

pub free-entered : (vol : Volume) (a size : ℕ) (img : List ℕ)
    → ((e : Refusal) × (blk_free vol a size img ≡ record { stores = []; out = refused e })) ⊎ ((geo : Geometry) × (taken_of img ≡ Ok geo) × (vol.writable ≡ true))
unfolding blk_free
free-entered vol a size img = entered vol _ img

-- a number above all its stores
pub free-plain : (vol : Volume) (a size k : ℕ) (img : List ℕ) → made (blk_free vol a size) img ≤ k → free_cut vol a size k img ≡ free_plain vol a size img
unfolding free_cut free_plain
free-plain vol a size k img l = plain-cut (freed_of vol) (blk_free vol a size) img k l

pub free-most : (vol : Volume) (a size : ℕ) (img : List ℕ) → made (blk_free vol a size) img ≤ 11
unfolding blk_free
free-most vol a size img = writing-most vol _ img 11 (λ geo e. take-most geo a size img (taken-frame img geo e))
