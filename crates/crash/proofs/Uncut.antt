-- An uncut run of the block calls keeps the frame, moves the free fragments by what it gave and took back, and leaves true counts true. Assumes nothing.
use Rattle.std.specs.Prelude.{Option, Some, None, Result, Ok, Err}
use mathlib.Core.Path.{◌≡◌, refl, sym, ap, subst, ◌∙◌}
use mathlib.Core.Bool.{Bool, true, false}
use mathlib.Core.List.{List, [], ◌∷◌}
use mathlib.Core.Logic.{◌⊎◌, inl, inr}
use Prim.Native.Nat.{ℕ, ◌+◌, ◌*◌, ◌/◌, ◌%◌, ◌≤◌}
use native.Mathlib.Omega.{arith}
use native.Mathlib.Decide.{ℕ_discrete}
use lib.Dec.{eqb}
use borrow.Author.Tests.{eq-eqb, ne_eqb}
use Rattle.refusal.specs.declared.Refusal.{Refusal}
use Rattle.refusal.specs.declared.Refusal.TheVariants.{Invalid, NoSpace}
use Rattle.store.specs.Store.{Store, apply_all}
use Rattle.store.specs.Act.{got, refused, Act, made, cut_act, leaves}
use Rattle.store.proofs.StoreLaws.{apply_all-none}
use Rattle.store.proofs.CutLaws.{cut-whole}
use Rattle.volume.specs.declared.Geometry.{Geometry}
use Rattle.volume.specs.declared.Volume.{Volume}
use Rattle.volume.specs.Volume.{geometry_of}
use Rattle.sound.specs.Clauses.{soundb}
use Rattle.sound.specs.Test.{taken_of}
use Rattle.frame.specs.Frame.{Frame}
use Rattle.frame.proofs.Places.{frame-of}
use Rattle.balloc_give.specs.Give.{chosen, give_stores, give_block, block_address}
use Rattle.balloc_give.proofs.GiveLaws.{chosen-is}
use Rattle.balloc_give.proofs.Theorems.{give-frame}
use Rattle.balloc_take.specs.Take.{good_size, take_test, take_stores, take_back, pick}
use Rattle.balloc_take.proofs.TestLaws.{test_good}
use Rattle.balloc_take.proofs.TakeLaws.{back-zero, back-good, back-bad, take-frame}
use Rattle.balloc_count.specs.Recount.{TrueCounts, total_free}
use Rattle.balloc.specs.Calls.{blk_alloc, blk_free}
use Rattle.balloc.proofs.CallLaws.{taken-is, alloc_entered, alloc-is, alloc-bad, free-entered, free-is}
use Rattle.crash.specs.Crash.{Call, give, take, call_stores, run_stores, over_run, finished, given_by, taken_by, answered}
use Rattle.crash.proofs.TrueKept.{true-give, true-take, free-give, free-take}
use Rattle.crash.proofs.Demand.{run-none, run-more}

-- ---- one call

-- what the stores of a call leave, which gives some fragments and takes some back
pub record Moved (geo : Geometry) (z : List ℕ) (ss : List Store) (given back : ℕ) : Type 0 where
  pub frame : Frame geo (apply_all ss z)
  pub free : total_free geo (apply_all ss z) + given ≡ total_free geo z + back
  pub counts : TrueCounts geo z → TrueCounts geo (apply_all ss z)

-- what holds at every cut of a call holds after it
after-frame : {A : Type 0} {geo : Geometry} (z : List ℕ) (m : Act A) → ((k : ℕ) → Frame geo (cut_act k m z)) → Frame geo (apply_all (m z).stores z)
unfolding leaves
after-frame {geo = geo} z m f = subst (λ (x : List ℕ). Frame geo x) (cut-whole (made m z) m z (omega arith)) (f (made m z))

module _ (vol : Volume) (geo : Geometry) (z : List ℕ) (fr : Frame geo z) where
  GiveMoved : ℕ → Type 0
  GiveMoved size = Moved geo z (blk_alloc vol size z).stores (answered (blk_alloc vol size z).out geo.frag) 0

  TakeMoved : ℕ → ℕ → Type 0
  TakeMoved a size = Moved geo z (blk_free vol a size z).stores 0 (pick (eqb a 0) 0 (answered (blk_free vol a size z).out (size / geo.fsize)))

  still : Moved geo z [] 0 0
  still = record { frame = rw (apply_all-none z) fr; free = rw (apply_all-none z); counts = λ t. rw (apply_all-none z) t }

  give-refused : (size : ℕ) (e : Refusal) → blk_alloc vol size z ≡ record { stores = []; out = refused e } → GiveMoved size
  unfolding GiveMoved
  give-refused size e q = rw q still

  nothing-back : (b : Bool) → Moved geo z [] 0 (pick b 0 0)
  nothing-back true = still
  nothing-back false = still

  take-refused : (a size : ℕ) (e : Refusal) → blk_free vol a size z ≡ record { stores = []; out = refused e } → TakeMoved a size
  unfolding TakeMoved
  take-refused a size e q = rw q (nothing-back (eqb a 0))

  give-none : chosen geo z ≡ None → give_block geo z ≡ record { stores = []; out = refused NoSpace }
  unfolding give_block
  give-none e = rw e

  give-some : (g h : ℕ) → chosen geo z ≡ Some (g, h) → give_block geo z ≡ record { stores = give_stores geo z g h; out = got (block_address geo g h) }
  unfolding give_block
  give-some g h e = rw e

  give-moved : (size g h : ℕ) → chosen geo z ≡ Some (g, h) → blk_alloc vol size z ≡ give_block geo z → GiveMoved size
  unfolding GiveMoved
  give-moved size g h e q =
      let i = chosen-is geo z g h e in
      let s = give-some g h e in
      let f : Frame geo (apply_all (give_stores geo z g h) z) = rw s at (after-frame z (give_block geo) (give-frame geo z fr)) in
      rw (q, s) (record { frame = f; free = omega (arith, free-give geo z fr g h i); counts = λ t. true-give geo z fr t g h i })

  take-nothing : (a size : ℕ) → a ≡ 0 → blk_free vol a size z ≡ take_back geo a size z → TakeMoved a size
  unfolding TakeMoved
  take-nothing a size e q = rw (q ∙ back-zero geo a size z e, eq-eqb a 0 e) still

  take-moved : (a size : ℕ) → (a ≡ 0 → ⊥) → take_test geo a size z ≡ Ok tt → blk_free vol a size z ≡ take_back geo a size z → TakeMoved a size
  unfolding TakeMoved
  take-moved a size n j q =
      let p = test_good geo a size z j in
      let s = back-good geo a size z n j in
      let f : Frame geo (apply_all (take_stores geo a size z) z) = rw s at (after-frame z (take_back geo a size) (take-frame geo a size z fr)) in
      rw (q ∙ s, ne_eqb a 0 n) (record { frame = f; free = omega (arith, free-take geo z fr a size p); counts = λ t. true-take geo z fr t a size p })

  -- the geometry that the call reads is the frame's
  same_taken : (own : Geometry) → taken_of z ≡ Ok own → taken_of z ≡ Ok geo
  same_taken own e = e ∙ ap Ok (sym (taken-is z own e).1 ∙ sym fr.same)

  give-any : (size : ℕ) → GiveMoved size
  give-any size = in-give (alloc_entered vol size z)
    where
      picked : taken_of z ≡ Ok geo → vol.writable ≡ true → good_size geo size ≡ true → (c : Option (ℕ × ℕ)) → chosen geo z ≡ c → GiveMoved size
      picked t w b None e = give-refused size NoSpace (alloc-is vol size 0 z geo t w b ∙ give-none e)
      picked t w b (Some (g, h)) e = give-moved size g h e (alloc-is vol size 0 z geo t w b)

      sized : taken_of z ≡ Ok geo → vol.writable ≡ true → (b : Bool) → good_size geo size ≡ b → GiveMoved size
      sized t w true b = picked t w b (chosen geo z) refl
      sized t w false b = give-refused size Invalid (alloc-bad vol size 0 z geo t w b)

      in-give : ((e : Refusal) × (blk_alloc vol size z ≡ record { stores = []; out = refused e })) ⊎ ((own : Geometry) × (taken_of z ≡ Ok own) × (vol.writable ≡ true)) → GiveMoved size
      in-give (inl r) = give-refused size r.0 r.1
      in-give (inr r) = sized (same_taken r.0 r.1) r.2 (good_size geo size) refl

  take-any : (a size : ℕ) → TakeMoved a size
  take-any a size = in_take (free-entered vol a size z)
    where
      judged : blk_free vol a size z ≡ take_back geo a size z → (a ≡ 0 → ⊥) → (j : Result (Unit {0}) Refusal) → take_test geo a size z ≡ j → TakeMoved a size
      judged q n (Ok u) e = take-moved a size n e q
      judged q n (Err r) e = take-refused a size r (q ∙ back-bad geo a size z n e)

      placed : blk_free vol a size z ≡ take_back geo a size z → Dec (a ≡ 0) → TakeMoved a size
      placed q (yes e) = take-nothing a size e q
      placed q (no n) = judged q n (take_test geo a size z) refl

      in_take : ((e : Refusal) × (blk_free vol a size z ≡ record { stores = []; out = refused e })) ⊎ ((own : Geometry) × (taken_of z ≡ Ok own) × (vol.writable ≡ true)) → TakeMoved a size
      in_take (inl r) = take-refused a size r.0 r.1
      in_take (inr r) = placed (free-is vol a size 0 z geo (same_taken r.0 r.1) r.2) (ℕ_discrete a 0)

  moved : (c : Call) → Moved geo z (call_stores vol c z) (given_by vol geo c z) (taken_by vol geo c z)
  unfolding given_by taken_by GiveMoved TakeMoved
  moved (give size) = give-any size
  moved (take a size) = take-any a size

-- ---- the run

-- what an uncut run leaves
pub record Ran (vol : Volume) (geo : Geometry) (z : List ℕ) (cs : List Call) : Type 0 where
  pub frame : Frame geo (finished vol cs z)
  pub free : total_free geo (finished vol cs z) + over_run vol (given_by vol geo) cs z ≡ total_free geo z + over_run vol (taken_by vol geo) cs z
  pub counts : TrueCounts geo z → TrueCounts geo (finished vol cs z)

run-moved : (vol : Volume) (geo : Geometry) (cs : List Call) (z : List ℕ) → Frame geo z → Ran vol geo z cs
unfolding over_run
run-moved vol geo [] z fr = record { frame = rw (run-none vol z) fr; free = rw (run-none vol z); counts = λ t. rw (run-none vol z) t }
run-moved vol geo (c ∷ cs) z fr =
    let m = moved vol geo z fr c in
    let r = run-moved vol geo cs (apply_all (call_stores vol c z) z) m.frame in
    let e = run-more vol c cs z in
    record { frame = rw e r.frame; free = rw e (omega (arith, m.free, r.free)); counts = λ t. rw e (r.counts (m.counts t)) }

-- "free fragments = those at the start, less the fragments given, plus the fragments taken back": of any calls, on any sound volume
pub uncut_run : (vol : Volume) (img : List ℕ) → soundb img ≡ true → (cs : List Call) → Ran vol (geometry_of img) img cs
uncut_run vol img e cs = run-moved vol (geometry_of img) cs img (frame-of img e)
