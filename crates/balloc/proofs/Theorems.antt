-- The public calls: 28 exactly when, the block given, and that a refusal stores nothing. Assumes nothing.
use Rattle.std.specs.Prelude.{Option, Some, None, Result, Ok, Err}
use mathlib.Core.Path.{◌≡◌, refl, sym, ap, ◌∙◌}
use mathlib.Core.Bool.{Bool, true, false}
use mathlib.Core.List.{List, []}
use mathlib.Core.Logic.{◌⊎◌, inl, inr}
use Prim.Native.Nat.{ℕ}
use native.Mathlib.Omega.{arith}
use native.Mathlib.Decide.{ℕ_discrete}
use Rattle.refusal.specs.declared.Refusal.{Refusal}
use Rattle.refusal.specs.declared.Refusal.TheVariants.{NoSpace}
use Rattle.store.specs.Act.{Out, got, refused, Run}
use Rattle.volume.specs.declared.Geometry.{Geometry}
use Rattle.volume.specs.declared.Volume.{Volume}
use Rattle.volume.specs.Volume.{geometry_of}
use Rattle.sound.specs.Clauses.{soundb}
use Rattle.sound.specs.Test.{taken_of}
use Rattle.sound.proofs.Laws.{taken-yes}
use Rattle.balloc_give.specs.Give.{chosen, giving, give_block, block_address}
use Rattle.balloc_give.proofs.GiveLaws.{IsChosen}
use Rattle.balloc_give.proofs.Theorems.{NoneFree, full-none, none-full, given-first}
use Rattle.balloc_take.specs.Take.{good_size, take_test, take_back}
use Rattle.balloc_take.proofs.TakeLaws.{back-zero, back-good, back-bad}
use Rattle.balloc.specs.Calls.{blk_alloc, blk_free}
use Rattle.balloc.proofs.CallLaws.{alloc_entered, alloc-is, alloc-bad, free-entered, free-is}

-- ---- what two answers share that both meet one promise

pub coincide : {A : Type 0} {p : A} (a b : A) → a ≡ p → b ≡ p → a ≡ b
coincide a b e f = e ∙ sym f

-- ---- "28 for a block exactly when no group with a count above zero has an aligned, wholly free block"

module _ (vol : Volume) (size : ℕ) (img : List ℕ) (s : soundb img ≡ true) (w : vol.writable ≡ true) (b : good_size (geometry_of img) size ≡ true) where
  is-giving : blk_alloc vol size img ≡ give_block (geometry_of img) img
  is-giving = alloc-is vol size 0 img (geometry_of img) (taken-yes img s) w b

  pub alloc-full-none : (blk_alloc vol size img).out ≡ refused NoSpace → NoneFree (geometry_of img) img
  alloc-full-none e = full-none (geometry_of img) img (sym (ap (λ (r : Run ℕ). r.out) is-giving) ∙ e)

  pub alloc-none-full : NoneFree (geometry_of img) img → (blk_alloc vol size img).out ≡ refused NoSpace
  alloc-none-full n = ap (λ (r : Run ℕ). r.out) is-giving ∙ none-full (geometry_of img) img n

  -- the block given is the first such
  pub alloc-first : (a : ℕ) → (blk_alloc vol size img).out ≡ got a → (g : ℕ) × (h : ℕ) × IsChosen (geometry_of img) img g h × (a ≡ block_address (geometry_of img) g h)
  alloc-first a e = given-first (geometry_of img) img a (sym (ap (λ (r : Run ℕ). r.out) is-giving) ∙ e)

-- ---- a refusal stores nothing

-- a run that answers or stores nothing
abbrev StillOrDone : {A : Type 0} → Run A → Type 0
StillOrDone {A} r = (r.stores ≡ []) ⊎ ((x : A) × (r.out ≡ got x))

still : {A : Type 0} (r : Run A) (e : Refusal) → StillOrDone r → r.out ≡ refused e → r.stores ≡ []
still r e (inl q) h = q
still r e (inr d) h = absurd (let q = d.1 in let z : ◌≡◌ {A = ℕ} 0 1 = cc in let y : ⊥ = omega arith in y)

refused_still : {A : Type 0} {r : Run A} {e : Refusal} → r ≡ record { stores = []; out = refused e } → StillOrDone r
refused_still q = inl (rw q)

give_still : (geo : Geometry) (img : List ℕ) → StillOrDone (give_block geo img)
unfolding give_block
give_still geo img = go (chosen geo img)
  where
    go : (c : Option (ℕ × ℕ)) → StillOrDone (giving geo img c)
    go None = inl refl
    go (Some (g, h)) = inr (block_address geo g h, refl)

take_still : (geo : Geometry) (a size : ℕ) (img : List ℕ) → StillOrDone (take_back geo a size img)
take_still geo a size img = go (ℕ_discrete a 0) (take_test geo a size img) refl
  where
    go : Dec (a ≡ 0) → (j : Result (Unit {0}) Refusal) → take_test geo a size img ≡ j → StillOrDone (take_back geo a size img)
    go (yes z) j e = inl (rw (back-zero geo a size img z))
    go (no n) (Ok u) e = inr (tt {0}, rw (back-good geo a size img n e))
    go (no n) (Err r) e = inl (rw (back-bad geo a size img n e))

pub alloc_still : (vol : Volume) (size : ℕ) (img : List ℕ) (e : Refusal) → (blk_alloc vol size img).out ≡ refused e → (blk_alloc vol size img).stores ≡ []
alloc_still vol size img e = still (blk_alloc vol size img) e (go (alloc_entered vol size img))
  where
    sized : (geo : Geometry) → taken_of img ≡ Ok geo → vol.writable ≡ true → (b : Bool) → good_size geo size ≡ b → StillOrDone (blk_alloc vol size img)
    sized geo t w true b = rw (alloc-is vol size 0 img geo t w b) (give_still geo img)
    sized geo t w false b = refused_still (alloc-bad vol size 0 img geo t w b)

    go : ((e : Refusal) × (blk_alloc vol size img ≡ record { stores = []; out = refused e })) ⊎ ((geo : Geometry) × (taken_of img ≡ Ok geo) × (vol.writable ≡ true)) → StillOrDone (blk_alloc vol size img)
    go (inl r) = refused_still r.1
    go (inr r) = sized r.0 r.1 r.2 (good_size r.0 size) refl

pub free_still : (vol : Volume) (a size : ℕ) (img : List ℕ) (e : Refusal) → (blk_free vol a size img).out ≡ refused e → (blk_free vol a size img).stores ≡ []
free_still vol a size img e = still (blk_free vol a size img) e (go (free-entered vol a size img))
  where
    go : ((e : Refusal) × (blk_free vol a size img ≡ record { stores = []; out = refused e })) ⊎ ((geo : Geometry) × (taken_of img ≡ Ok geo) × (vol.writable ≡ true)) → StillOrDone (blk_free vol a size img)
    go (inl r) = refused_still r.1
    go (inr r) = rw (free-is vol a size 0 img r.0 r.1 r.2) (take_still r.0 a size img)
