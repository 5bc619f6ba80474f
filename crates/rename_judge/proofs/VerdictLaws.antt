-- Laws of what rename is told: 01's order of the stages, and the same behind the names and the numbers. Assumes nothing.
use Rattle.std.specs.Prelude.{Result, Err}
use mathlib.Core.Path.{◌≡◌, refl, sym, ap, ◌∙◌}
use mathlib.Core.Bool.{Bool, true, false, ◌&&◌}
use mathlib.Core.List.{List}
use Prim.Native.Nat.{ℕ, ◌*◌, ◌<◌}
use lib.ListN.{length}
use borrow.Author.Tests.{leb-true}
use native.Mathlib.Omega.{arith}
use Rattle.refusal.specs.declared.Refusal.{Refusal}
use Rattle.refusal.specs.declared.Refusal.TheVariants.{Invalid, NameTooLong, NotDirectory, IsDirectory, Damaged}
use Rattle.store.specs.Act.{Out, got, refused}
use Rattle.volume.specs.declared.Geometry.{Geometry}
use Rattle.inode_run.specs.declared.Spot.{Spot}
use Rattle.inode_run.specs.Judge.{ask}
use Rattle.inode_run.specs.Find.{number_ok, spot_of}
use Rattle.inode_run.proofs.FindLaws.{number-is}
use Rattle.stages.specs.Stages.{Stages, in_order, both_out}
use Rattle.stages.proofs.StagesLaws.{Ready, at_names, at-lengths, at-numbers, at-inodes, at-dirs, at-files, at-kinds, at-walk, at_target, at-empty, at-links, at-ends, at-tails, both_first, both_then}
use Rattle.dirnames.specs.Names.{taken, short}
use Rattle.dirfile.specs.Seek.{Sought}
use Rattle.rename_judge.specs.declared.Verdict.{Verdict}
use Rattle.rename_judge.specs.declared.Verdict.TheVariants as Verdict
use Rattle.rename_judge.specs.Rename.{Asked, same, inode_in, Facts, facts_in, facts_of, tests, own_out, moving_out, own_stages, moving_stages, stages_by, rename_stages, is_there, same_of, move_of, verdict_by, either_verdict, verdict_in, verdict_of}

-- ---- one call's answer after another's

pub verdict_free : (o : Out (Unit {0})) (v r : Result Verdict Refusal) → got (tt {0}) ≡ o → r ≡ v → r ≡ verdict_by o v
verdict_free o v r p q = q ∙ ap (λ (x : Out (Unit {0})). verdict_by x v) p

pub verdict_no : (o : Out (Unit {0})) (v r : Result Verdict Refusal) (e : Refusal) → r ≡ Err e → refused e ≡ o → r ≡ verdict_by o v
verdict_no o v r e q p = q ∙ ap (λ (x : Out (Unit {0})). verdict_by x v) p

-- ---- the stages behind the names and the numbers

-- a test is one by what it says where it fails and where it passes
asked : (b : Bool) (e : Refusal) (y z : Out (Unit {0})) → (b ≡ false → z ≡ refused e) → (b ≡ true → z ≡ y) → z ≡ ask b e y
asked true e y z f g = g refl
asked false e y z f g = f refl

stepped : (x y z : Out (Unit {0})) → ((e : Refusal) → x ≡ refused e → z ≡ refused e) → (x ≡ got (tt {0}) → z ≡ y) → z ≡ both_out x y
stepped (got u) y z f g = g refl ∙ sym (both_then (got u) y refl)
stepped (refused e) y z f g = f e refl ∙ sym (both_first (refused e) y e refl)

module _ (s : Stages) where
  from-walk : Ready s → in_order s ≡ both_out s.walk (both_out s.target (both_out s.empty (both_out s.links (both_out s.ends s.tails))))
  from-walk r =
      stepped s.walk _ _ (at-walk s r)
      (λ w. stepped s.target _ _ (at_target s r w)
      (λ t. stepped s.empty _ _ (at-empty s r w t)
      (λ m. stepped s.links _ _ (at-links s r w t m)
      (λ k. stepped s.ends _ _ (at-ends s r w t m k) (at-tails s r w t m k)))))

  in_rest : s.names ≡ true → s.lengths ≡ true → s.numbers ≡ true
      → in_order s ≡ tests s.inodes s.dirs s.files s.kinds (both_out s.walk (both_out s.target (both_out s.empty (both_out s.links (both_out s.ends s.tails)))))
  unfolding tests
  in_rest n l u =
      asked s.inodes Invalid _ _ (at-inodes s n l u)
      (λ i. asked s.dirs NotDirectory _ _ (at-dirs s n l u i)
      (λ d. asked s.files IsDirectory _ _ (at-files s n l u i d)
      (λ f. asked s.kinds Damaged _ _ (at-kinds s n l u i d f)
      (λ k. from-walk (record { names = n; lengths = l; numbers = u; inodes = i; dirs = d; files = f; kinds = k })))))

-- stages at which nothing is asked
both_last : (x : Out (Unit {0})) → both_out x (got (tt {0})) ≡ x
both_last (got u) = both_then (got u) (got (tt {0})) refl
both_last (refused e) = both_first (refused e) (got (tt {0})) e refl

idle : both_out (got (tt {0})) (both_out (got (tt {0})) (both_out (got (tt {0})) (both_out (got (tt {0})) (got (tt {0}))))) ≡ got (tt {0})
idle = both_then _ _ refl ∙ both_then _ _ refl ∙ both_then _ _ refl ∙ both_then _ _ refl

module _ (geo : Geometry) (img : List ℕ) (a : Asked) where
  abbrev To : Spot
  To = spot_of geo img a.to

  abbrev From : Spot
  From = spot_of geo img a.from

  stages-names : (rename_stages geo img a).names ≡ (taken true a.new && taken true a.old)
  unfolding rename_stages own_stages moving_stages
  stages-names = by (same a)
    where
      by : (t : Bool) → (stages_by t (own_stages geo img a To From (facts_of geo img a).moved) (moving_stages geo img a To From (facts_of geo img a))).names ≡ (taken true a.new && taken true a.old)
      by true = refl
      by false = refl

  stages-lengths : (rename_stages geo img a).lengths ≡ (short a.new && short a.old)
  unfolding rename_stages own_stages moving_stages
  stages-lengths = by (same a)
    where
      by : (t : Bool) → (stages_by t (own_stages geo img a To From (facts_of geo img a).moved) (moving_stages geo img a To From (facts_of geo img a))).lengths ≡ (short a.new && short a.old)
      by true = refl
      by false = refl

  stages-numbers : (rename_stages geo img a).numbers ≡ (number_ok geo a.from && number_ok geo a.to)
  unfolding rename_stages own_stages moving_stages
  stages-numbers = by (same a)
    where
      by : (t : Bool) → (stages_by t (own_stages geo img a To From (facts_of geo img a).moved) (moving_stages geo img a To From (facts_of geo img a))).numbers ≡ (number_ok geo a.from && number_ok geo a.to)
      by true = refl
      by false = refl

  pub stopped : (e : Refusal) → in_order (rename_stages geo img a) ≡ refused e → Err e ≡ verdict_of geo img a
  unfolding verdict_of
  stopped e h = rw h

  pub order-names : (taken true a.new && taken true a.old) ≡ false → in_order (rename_stages geo img a) ≡ refused Invalid
  order-names h = at_names (rename_stages geo img a) (stages-names ∙ h)

  pub stop-names : (taken true a.new && taken true a.old) ≡ false → Err Invalid ≡ verdict_of geo img a
  stop-names h = stopped Invalid (order-names h)

  module _ (n : (taken true a.new && taken true a.old) ≡ true) where
    pub order-lengths : (short a.new && short a.old) ≡ false → in_order (rename_stages geo img a) ≡ refused NameTooLong
    order-lengths h = at-lengths (rename_stages geo img a) (stages-names ∙ n) (stages-lengths ∙ h)

    pub stop-lengths : (short a.new && short a.old) ≡ false → Err NameTooLong ≡ verdict_of geo img a
    stop-lengths h = stopped NameTooLong (order-lengths h)

    module _ (l : (short a.new && short a.old) ≡ true) where
      pub order-numbers : (number_ok geo a.from && number_ok geo a.to) ≡ false → in_order (rename_stages geo img a) ≡ refused Invalid
      order-numbers h = at-numbers (rename_stages geo img a) (stages-names ∙ n) (stages-lengths ∙ l) (stages-numbers ∙ h)

      pub stop-numbers : (number_ok geo a.from && number_ok geo a.to) ≡ false → Err Invalid ≡ verdict_of geo img a
      stop-numbers h = stopped Invalid (order-numbers h)

      module _ (u : (number_ok geo a.from && number_ok geo a.to) ≡ true) where
        own-rest : in_order (own_stages geo img a To From (facts_of geo img a).moved) ≡ own_out geo img To From (facts_of geo img a).moved
        unfolding own_stages
        own-rest =
            let s = own_stages geo img a To From (facts_of geo img a).moved in
            in_rest s n l u ∙ ap (λ (x : Out (Unit {0})). tests s.inodes s.dirs s.files s.kinds x) (ap (both_out s.walk) idle ∙ both_last s.walk)

        moving-rest : in_order (moving_stages geo img a To From (facts_of geo img a)) ≡ moving_out geo img a.to a.from To From (length a.new) a.replace (facts_of geo img a)
        unfolding moving_stages
        moving-rest =
            let s = moving_stages geo img a To From (facts_of geo img a) in
            in_rest s n l u ∙ ap (λ (x : Out (Unit {0})). tests s.inodes s.dirs s.files s.kinds (both_out s.walk (both_out s.target x))) (both_then s.empty (both_out s.links (both_out s.ends s.tails)) refl)

        pub order-own : same a ≡ true → in_order (rename_stages geo img a) ≡ own_out geo img To From (facts_of geo img a).moved
        unfolding rename_stages
        order-own t = rw t own-rest

        pub order-moving : same a ≡ false → in_order (rename_stages geo img a) ≡ moving_out geo img a.to a.from To From (length a.new) a.replace (facts_of geo img a)
        unfolding rename_stages
        order-moving t = rw t moving-rest

        pub goes_on : (r : Result Verdict Refusal) → r ≡ verdict_in geo img a → r ≡ verdict_of geo img a
        unfolding verdict_in verdict_of rename_stages
        goes_on r h = h ∙ by (same a)
          where
            by : (t : Bool)
                → either_verdict t (verdict_by (own_out geo img To From (facts_of geo img a).moved) (same_of (facts_of geo img a).moved))
                (verdict_by (moving_out geo img a.to a.from To From (length a.new) a.replace (facts_of geo img a)) (move_of geo img (a.replace && is_there (facts_of geo img a).way) (facts_of geo img a).moved))
                ≡ verdict_by (in_order (stages_by t (own_stages geo img a To From (facts_of geo img a).moved) (moving_stages geo img a To From (facts_of geo img a))))
                (either_verdict t (same_of (facts_of geo img a).moved) (move_of geo img (a.replace && is_there (facts_of geo img a).way) (facts_of geo img a).moved))
            by true = ap (λ (x : Out (Unit {0})). verdict_by x (same_of (facts_of geo img a).moved)) (sym own-rest)
            by false = ap (λ (x : Out (Unit {0})). verdict_by x (move_of geo img (a.replace && is_there (facts_of geo img a).way) (facts_of geo img a).moved)) (sym moving-rest)

-- ---- the directories and the file, as they are found

module _ (geo : Geometry) (img : List ℕ) (a : Asked) (to from : Spot) (p : to ≡ spot_of geo img a.to) (q : from ≡ spot_of geo img a.from) where
  pub in-same : (x : Sought ℕ) → x ≡ inode_in geo img from a.old → same a ≡ true → (r : Result Verdict Refusal) → r ≡ verdict_by (own_out geo img to from x) (same_of x) → r ≡ verdict_in geo img a
  unfolding verdict_in facts_in
  in-same x h t r e = rw (t, ← q, ← p, ← h) e

  pub in-moving : (n : ℕ) → n ≡ length a.new → (f : Facts) → f ≡ facts_in geo img to from a.new a.old a.replace → same a ≡ false → (r : Result Verdict Refusal)
      → r ≡ verdict_by (moving_out geo img a.to a.from to from n a.replace f) (move_of geo img (a.replace && is_there f.way) f.moved) → r ≡ verdict_in geo img a
  unfolding verdict_in
  in-moving n l f h t r e = rw (t, ← q, ← p, ← h, ← l) e

-- ---- numbers and names that passed

pub short-length : (name : List ℕ) → short name ≡ true → length name < 256
unfolding short
short-length name h = omega (arith, leb-true (length name) 255 h)

pub number-low : (geo : Geometry) (i : ℕ) → number_ok geo i ≡ true → i < geo.ncg * geo.ipg
number-low geo i h = (number-is geo i h).1
