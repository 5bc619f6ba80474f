-- A call refuses exactly where a stage refuses, and by the refusal of the stage that stands first in 01's order. Assumes nothing.
use mathlib.Core.Path.{◌≡◌, refl, sym, ap, ◌∙◌}
use mathlib.Core.Bool.{Bool, true, false, ◌&&◌}
use mathlib.Core.List.{List, [], ◌∷◌}
use mathlib.Core.Logic.{⊎_elim}
use Prim.Native.Nat.{ℕ, zero, suc, ◌+◌, ◌≤◌, ◌<◌}
use native.Mathlib.Nat.{eq-or-lt_of_le}
use native.Mathlib.Omega.{arith}
use lib.Dec.{eqb}
use lib.ListN.{length, get_or}
use borrow.Author.Tests.{eqb-true}
use Rattle.refusal.specs.declared.Refusal.{Refusal}
use Rattle.refusal.specs.declared.Refusal.TheVariants.{Invalid, NameTooLong, NotDirectory, IsDirectory, Damaged}
use Rattle.store.specs.Act.{Out, got, refused}
use Rattle.bits.proofs.UptoLaws.{both}
use Rattle.inode_run.specs.Judge.{ask, and_then}
use Rattle.stages.specs.Stages.{Stages, in_order}
use Rattle.stages.specs.Order.{Stage, names, lengths, numbers, inodes, dirs, files, kinds, walk, target, empty, links, ends, tails, place, test, says, First}
use Rattle.stages.proofs.StagesLaws.{Passed}

-- ---- a row of answers, one after another

abbrev up_to : (ℕ → Out (Unit {0})) → ℕ → ℕ → Out (Unit {0})
up_to f zero i = got (tt {0})
up_to f (suc k) i = and_then (f i) (λ _. up_to f k (i + 1))

record Stops (f : ℕ → Out (Unit {0})) (k i : ℕ) (e : Refusal) : Type 0 where
  pub at : ℕ
  pub from : i ≤ at
  pub below : at < i + k
  pub refuses : f at ≡ refused e
  pub before : (m : ℕ) → i ≤ m → m < at → f m ≡ got (tt {0})

apart : {e : Refusal} → ◌≡◌ {A = Out (Unit {0})} (got (tt {0})) (refused e) → ⊥
apart h = let z : ◌≡◌ {A = ℕ} 0 1 = cc in omega arith

module _ (f : ℕ → Out (Unit {0})) (k i : ℕ) where
  stops-later : {e : Refusal} → f i ≡ got (tt {0}) → Stops f k (i + 1) e → Stops f (suc k) i e
  stops-later g r =
      record {
        at = r.at;
        from = omega (arith, r.from);
        below = omega (arith, r.below);
        refuses = r.refuses;
        before = λ m a b. ⊎_elim (λ q. ap f (sym q) ∙ g) (λ l. r.before m (omega arith) b) (eq-or-lt_of_le a);
      }

  stops-here : {e : Refusal} → f i ≡ refused e → Stops f (suc k) i e
  stops-here r = record { at = i; from = omega arith; below = omega arith; refuses = r; before = λ m a b. absurd (let y : ⊥ = omega arith in y) }

  stops-by : {e : Refusal} → (up_to f k (i + 1) ≡ refused e → Stops f k (i + 1) e)
      → (o : Out (Unit {0})) → f i ≡ o → and_then o (λ _. up_to f k (i + 1)) ≡ refused e → Stops f (suc k) i e
  stops-by rest (got a) p h = stops-later p (rest h)
  stops-by rest (refused x) p h = stops-here (p ∙ h)

  all-by : (up_to f k (i + 1) ≡ got (tt {0}) → (m : ℕ) → i + 1 ≤ m → m < i + 1 + k → f m ≡ got (tt {0}))
      → (o : Out (Unit {0})) → f i ≡ o → and_then o (λ _. up_to f k (i + 1)) ≡ got (tt {0}) → (m : ℕ) → i ≤ m → m < i + suc k → f m ≡ got (tt {0})
  all-by rest (got v) p h m a b = ⊎_elim (λ q. ap f (sym q) ∙ p) (λ l. rest h m (omega arith) (omega arith)) (eq-or-lt_of_le a)
  all-by rest (refused x) p h m a b = absurd (apart (sym h))

up_to_stops : (f : ℕ → Out (Unit {0})) (k i : ℕ) {e : Refusal} → up_to f k i ≡ refused e → Stops f k i e
up_to_stops f zero i h = absurd (apart h)
up_to_stops f (suc k) i h = stops-by f k i (λ q. up_to_stops f k (i + 1) q) (f i) refl h

up_to_all : (f : ℕ → Out (Unit {0})) (k i : ℕ) → up_to f k i ≡ got (tt {0}) → (m : ℕ) → i ≤ m → m < i + k → f m ≡ got (tt {0})
up_to_all f zero i h m a b = absurd (let y : ⊥ = omega arith in y)
up_to_all f (suc k) i h m a b = all-by f k i (λ q. up_to_all f k (i + 1) q) (f i) refl h m a b

stops_up_to : (f : ℕ → Out (Unit {0})) (k i : ℕ) {e : Refusal} → Stops f k i e → up_to f k i ≡ refused e
stops_up_to f zero i s = absurd (let y : ⊥ = omega (arith, s.from, s.below) in y)
stops_up_to f (suc k) i {e} s =
    ⊎_elim
    (λ q. let r : f i ≡ refused e = ap f q ∙ s.refuses in rw r)
    (λ l.
    let g : f i ≡ got (tt {0}) = s.before i (omega arith) l in
    let rest : Stops f k (i + 1) e =
    record { at = s.at; from = omega (arith, l); below = omega (arith, s.below); refuses = s.refuses; before = λ m c d. s.before m (omega arith) d } in
    rw g (stops_up_to f k (i + 1) rest))
    (eq-or-lt_of_le s.from)

-- ---- the stages are such a row

abbrev order : List Stage
order = names ∷ lengths ∷ numbers ∷ inodes ∷ dirs ∷ files ∷ kinds ∷ walk ∷ target ∷ empty ∷ links ∷ ends ∷ tails ∷ []

abbrev stage_at : ℕ → Stage
stage_at n = get_or order n tails

-- places go up by one
abbrev climbs : ℕ → List Stage → Bool
climbs n [] = true
climbs n (t ∷ ts) = eqb (place t) n && climbs (n + 1) ts

place_in : (ts : List Stage) (n k : ℕ) → climbs n ts ≡ true → k < length ts → place (get_or ts k tails) ≡ n + k
place_in [] n k h l = absurd (let y : ⊥ = omega arith in y)
place_in (t ∷ ts) n zero h l = eqb-true (place t) n (both (eqb (place t) n) (climbs (n + 1) ts) h).0 ∙ (omega arith)
place_in (t ∷ ts) n (suc k) h l = place_in ts (n + 1) k (both (eqb (place t) n) (climbs (n + 1) ts) h).1 (omega arith) ∙ (omega arith)

place-at : (k : ℕ) → k < 13 → place (stage_at k) ≡ k
place-at k l = place_in order 0 k refl l ∙ (omega arith)

stage_there : (t : Stage) → (stage_at (place t) ≡ t) × (place t < 13)
stage_there names = (refl, (omega arith))
stage_there lengths = (refl, (omega arith))
stage_there numbers = (refl, (omega arith))
stage_there inodes = (refl, (omega arith))
stage_there dirs = (refl, (omega arith))
stage_there files = (refl, (omega arith))
stage_there kinds = (refl, (omega arith))
stage_there walk = (refl, (omega arith))
stage_there target = (refl, (omega arith))
stage_there empty = (refl, (omega arith))
stage_there links = (refl, (omega arith))
stage_there ends = (refl, (omega arith))
stage_there tails = (refl, (omega arith))

-- ---- the definition goes along the row

ask-test : (b : Bool) (e : Refusal) {x y : Out (Unit {0})} → x ≡ y → ask b e x ≡ and_then (test b e) (λ _. y)
ask-test true e q = q
ask-test false e q = refl

then_on : (o : Out (Unit {0})) {x y : Out (Unit {0})} → x ≡ y → and_then o (λ _. x) ≡ and_then o (λ _. y)
then_on (got a) q = q
then_on (refused e) q = refl

then_end : (o : Out (Unit {0})) → o ≡ and_then o (λ _. got (tt {0}))
then_end (got a) = refl
then_end (refused e) = refl

test-passed : (b : Bool) (e : Refusal) → test b e ≡ got (tt {0}) → b ≡ true
test-passed true e h = refl
test-passed false e h = absurd (apart (sym h))

module _ (s : Stages) where
  abbrev row : ℕ → Out (Unit {0})
  row n = says s (stage_at n)

  in_row : in_order s ≡ up_to row 13 0
  unfolding in_order
  in_row =
      ask-test s.names Invalid
      (ask-test s.lengths NameTooLong
      (ask-test s.numbers Invalid
      (ask-test s.inodes Invalid
      (ask-test s.dirs NotDirectory
      (ask-test s.files IsDirectory
      (ask-test s.kinds Damaged
      (then_on s.walk
      (then_on s.target
      (then_on s.empty
      (then_on s.links
      (then_on s.ends
      (then_end s.tails))))))))))))

  in_place : (t : Stage) → row (place t) ≡ says s t
  in_place t = ap (says s) (stage_there t).0

  -- a refusal is that of the first stage that refuses
  pub first-failing : (e : Refusal) → in_order s ≡ refused e → First s e
  first-failing e h =
      let r : Stops row 13 0 e = up_to_stops row 13 0 (sym in_row ∙ h) in
      let p : place (stage_at r.at) ≡ r.at = place-at r.at (omega (arith, r.below)) in
      record {
        at = stage_at r.at;
        refuses = r.refuses;
        before = λ t l. sym (in_place t) ∙ r.before (place t) (omega arith) (omega (arith, p, l));
      }

  -- and the first stage that refuses has its refusal given
  pub failing-first : (e : Refusal) → First s e → in_order s ≡ refused e
  failing-first e q =
      let low = (stage_there q.at).1 in
      in_row
      ∙ stops_up_to row 13 0
      (record {
        at = place q.at;
        from = omega arith;
        below = omega (arith, low);
        refuses = in_place q.at ∙ q.refuses;
        before = λ m a b. q.before (stage_at m) (let p = place-at m (omega (arith, low, b)) in omega (arith, p, b));
      })

  pub all-passed : in_order s ≡ got (tt {0}) → (t : Stage) → says s t ≡ got (tt {0})
  all-passed h t = sym (in_place t) ∙ up_to_all row 13 0 (sym in_row ∙ h) (place t) (omega arith) (let low = (stage_there t).1 in omega (arith, low))

  -- a call that goes on to its work has passed every stage
  pub passed : in_order s ≡ got (tt {0}) → Passed s
  passed h =
      let p = all-passed h in
      record {
        ready =
            record {
              names = test-passed s.names Invalid (p names);
              lengths = test-passed s.lengths NameTooLong (p lengths);
              numbers = test-passed s.numbers Invalid (p numbers);
              inodes = test-passed s.inodes Invalid (p inodes);
              dirs = test-passed s.dirs NotDirectory (p dirs);
              files = test-passed s.files IsDirectory (p files);
              kinds = test-passed s.kinds Damaged (p kinds);
            };
        walk = p walk;
        target = p target;
        empty = p empty;
        links = p links;
        ends = p ends;
        tails = p tails;
      }
