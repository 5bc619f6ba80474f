-- What each answer of `judge_rename` says: the order of the stages is passed or not, and the file that was found. rename goes on from there. Assumes nothing.
use Rattle.std.specs.Prelude.{Result, Ok, Err}
use mathlib.Core.Path.{◌≡◌, refl, sym, ap, ◌∙◌}
use mathlib.Core.Bool.{Bool, true, false, ◌&&◌}
use mathlib.Core.List.{List}
use Prim.Native.Nat.{ℕ, ◌<◌}
use native.Mathlib.Omega.{arith}
use lib.ListN.{length}
use Rattle.bits.proofs.UptoLaws.{both}
use Rattle.refusal.specs.declared.Refusal.{Refusal}
use Rattle.store.specs.Act.{Out, got, refused}
use Rattle.volume.specs.declared.Geometry.{Geometry}
use Rattle.inode.specs.Shape.{type_of}
use Rattle.inode_run.specs.Find.{number_ok, spot_of}
use Rattle.stages.specs.Stages.{in_order}
use Rattle.stages.proofs.StagesLaws.{both_passed}
use Rattle.dirnames.specs.Names.{taken, short}
use Rattle.dirfile.specs.Seek.{Sought, here, nowhere, hurt}
use Rattle.unlink_judge.specs.Unlink.{there_out}
use Rattle.rename_judge.specs.declared.Verdict.{Verdict}
use Rattle.rename_judge.specs.declared.Verdict.TheVariants as Verdict
use Rattle.rename_judge.specs.Rename.{Asked, same, facts_of, tests, rename_stages, is_there, same_of, move_of, verdict_by, either_verdict, verdict_of}
use Rattle.rename_judge.proofs.VerdictLaws.{short-length, stopped, order-names, order-lengths, order-numbers, order-own, order-moving}

never : (e : Refusal) → ◌≡◌ {A = Out (Unit {0})} (got (tt {0})) (refused e) → ⊥
never e h = let z : ◌≡◌ {A = ℕ} 0 1 = cc in omega arith

tests-next : (i d f k : Bool) (o : Out (Unit {0})) → tests i d f k o ≡ got (tt {0}) → o ≡ got (tt {0})
unfolding tests
tests-next true true true true o h = h
tests-next true true true false o h = absurd (never _ (sym h))
tests-next true true false k o h = absurd (never _ (sym h))
tests-next true false f k o h = absurd (never _ (sym h))
tests-next false d f k o h = absurd (never _ (sym h))

there-here : (x : Sought ℕ) → there_out x ≡ got (tt {0}) → (i : ℕ) × (x ≡ here i)
there-here (here i) h = (i, refl)
there-here nowhere h = absurd (never _ (sym h))
there-here hurt h = absurd (never _ (sym h))

-- ---- where all passes

pub record Renames (geo : Geometry) (img : List ℕ) (a : Asked) : Type 0 where
  pub short : length a.new < 256
  pub inode : ℕ
  pub moved : (facts_of geo img a).moved ≡ here inode

module _ (geo : Geometry) (img : List ℕ) (a : Asked) where
  module _ (h : in_order (rename_stages geo img a) ≡ got (tt {0})) where
    names-by : (b : Bool) → (taken true a.new && taken true a.old) ≡ b → (taken true a.new && taken true a.old) ≡ true
    names-by true q = q
    names-by false q = absurd (never _ (sym h ∙ order-names geo img a q))

    module _ (n : (taken true a.new && taken true a.old) ≡ true) where
      lengths-by : (b : Bool) → (short a.new && short a.old) ≡ b → (short a.new && short a.old) ≡ true
      lengths-by true q = q
      lengths-by false q = absurd (never _ (sym h ∙ order-lengths geo img a n q))

      module _ (l : (short a.new && short a.old) ≡ true) where
        numbers-by : (b : Bool) → (number_ok geo a.from && number_ok geo a.to) ≡ b → (number_ok geo a.from && number_ok geo a.to) ≡ true
        numbers-by true q = q
        numbers-by false q = absurd (never _ (sym h ∙ order-numbers geo img a n l q))

        module _ (u : (number_ok geo a.from && number_ok geo a.to) ≡ true) where
          moved_by : (t : Bool) → same a ≡ t → there_out (facts_of geo img a).moved ≡ got (tt {0})
          moved_by true q = tests-next _ _ _ _ _ (sym (order-own geo img a n l u q) ∙ h)
          moved_by false q = (both_passed _ _ (both_passed _ _ (tests-next _ _ _ _ _ (sym (order-moving geo img a n l u q) ∙ h))).0).0

    pub rename-passed : Renames geo img a
    rename-passed =
        let n = names-by (taken true a.new && taken true a.old) refl in
        let l = lengths-by n (short a.new && short a.old) refl in
        let u = numbers-by n l (number_ok geo a.from && number_ok geo a.to) refl in
        let w = there-here (facts_of geo img a).moved (moved_by n l u (same a) refl) in
        record { short = short-length a.new (both (short a.new) (short a.old) l).0; inode = w.0; moved = w.1 }

    pub told-passed-same : same a ≡ true → (i : ℕ) → (facts_of geo img a).moved ≡ here i → verdict_of geo img a ≡ Ok (Verdict.Same i)
    unfolding verdict_of
    told-passed-same t i m = rw (h, t, m)

    pub told-passed-apart : same a ≡ false → (i : ℕ) → (facts_of geo img a).moved ≡ here i
        → verdict_of geo img a ≡ Ok (Verdict.Move i (type_of (spot_of geo img i).shape.mode) (a.replace && is_there (facts_of geo img a).way))
    unfolding verdict_of
    told-passed-apart t i m = rw (h, t, m)

  -- ---- the answers

  -- "Same directory and name: nothing stored, inode returned"
  pub record Stays (i : ℕ) : Type 0 where
    pub passed : in_order (rename_stages geo img a) ≡ got (tt {0})
    pub alike : same a ≡ true
    pub moved : (facts_of geo img a).moved ≡ here i

  pub record Moves (i k : ℕ) (c : Bool) : Type 0 where
    pub passed : in_order (rename_stages geo img a) ≡ got (tt {0})
    pub apart : same a ≡ false
    pub moved : (facts_of geo img a).moved ≡ here i
    pub kind : k ≡ type_of (spot_of geo img i).shape.mode
    pub clears : c ≡ (a.replace && is_there (facts_of geo img a).way)
    pub short : length a.new < 256

  pub told-no : (e : Refusal) → Err e ≡ verdict_of geo img a → in_order (rename_stages geo img a) ≡ refused e
  told-no e v = by (in_order (rename_stages geo img a)) refl
    where
      passed : in_order (rename_stages geo img a) ≡ got (tt {0}) → (t : Bool) → same a ≡ t → ⊥
      passed h true q = let r = rename-passed h in let x : ◌≡◌ {A = Result Verdict Refusal} (Err e) (Ok (Verdict.Same r.inode)) = v ∙ told-passed-same h q r.inode r.moved in let z : ◌≡◌ {A = ℕ} 0 1 = cc in omega arith
      passed h false q =
          let r = rename-passed h in
          let x : ◌≡◌ {A = Result Verdict Refusal} (Err e) (Ok (Verdict.Move r.inode (type_of (spot_of geo img r.inode).shape.mode) (a.replace && is_there (facts_of geo img a).way))) = v ∙ told-passed-apart h q r.inode r.moved in
          let z : ◌≡◌ {A = ℕ} 0 1 = cc in omega arith

      by : (o : Out (Unit {0})) → in_order (rename_stages geo img a) ≡ o → in_order (rename_stages geo img a) ≡ refused e
      by (got u) h = absurd (passed h (same a) refl)
      by (refused f) h = let x : ◌≡◌ {A = Result Verdict Refusal} (Err e) (Err f) = v ∙ sym (stopped geo img a f h) in let y : f ≡ e = cc in h ∙ ap refused y

  pub told_same : (i : ℕ) → Ok (Verdict.Same i) ≡ verdict_of geo img a → Stays i
  told_same i v = by (in_order (rename_stages geo img a)) refl
    where
      passed : in_order (rename_stages geo img a) ≡ got (tt {0}) → (t : Bool) → same a ≡ t → Stays i
      passed h true q =
          let r = rename-passed h in
          let x : ◌≡◌ {A = Result Verdict Refusal} (Ok (Verdict.Same i)) (Ok (Verdict.Same r.inode)) = v ∙ told-passed-same h q r.inode r.moved in
          let y : r.inode ≡ i = cc in
          record { passed = h; alike = q; moved = r.moved ∙ ap here y }
      passed h false q =
          absurd (let r = rename-passed h in
          let x : ◌≡◌ {A = Result Verdict Refusal} (Ok (Verdict.Same i)) (Ok (Verdict.Move r.inode (type_of (spot_of geo img r.inode).shape.mode) (a.replace && is_there (facts_of geo img a).way))) = v ∙ told-passed-apart h q r.inode r.moved in
          let z : ◌≡◌ {A = ℕ} 0 1 = cc in let y : ⊥ = omega arith in y)

      by : (o : Out (Unit {0})) → in_order (rename_stages geo img a) ≡ o → Stays i
      by (got u) h = passed h (same a) refl
      by (refused f) h = absurd (let x : ◌≡◌ {A = Result Verdict Refusal} (Ok (Verdict.Same i)) (Err f) = v ∙ sym (stopped geo img a f h) in let z : ◌≡◌ {A = ℕ} 0 1 = cc in let y : ⊥ = omega arith in y)

  pub told_move : (i k : ℕ) (c : Bool) → Ok (Verdict.Move i k c) ≡ verdict_of geo img a → Moves i k c
  told_move i k c v = by (in_order (rename_stages geo img a)) refl
    where
      passed : in_order (rename_stages geo img a) ≡ got (tt {0}) → (t : Bool) → same a ≡ t → Moves i k c
      passed h true q =
          absurd (let r = rename-passed h in
          let x : ◌≡◌ {A = Result Verdict Refusal} (Ok (Verdict.Move i k c)) (Ok (Verdict.Same r.inode)) = v ∙ told-passed-same h q r.inode r.moved in
          let z : ◌≡◌ {A = ℕ} 0 1 = cc in let y : ⊥ = omega arith in y)
      passed h false q =
          let r = rename-passed h in
          let x : ◌≡◌ {A = Result Verdict Refusal} (Ok (Verdict.Move i k c)) (Ok (Verdict.Move r.inode (type_of (spot_of geo img r.inode).shape.mode) (a.replace && is_there (facts_of geo img a).way))) = v ∙ told-passed-apart h q r.inode r.moved in
          let y : r.inode ≡ i = cc in
          let w : k ≡ type_of (spot_of geo img r.inode).shape.mode = cc in
          let d : c ≡ (a.replace && is_there (facts_of geo img a).way) = cc in
          record { passed = h; apart = q; moved = r.moved ∙ ap here y; kind = w ∙ ap (λ (j : ℕ). type_of (spot_of geo img j).shape.mode) y; clears = d; short = r.short }

      by : (o : Out (Unit {0})) → in_order (rename_stages geo img a) ≡ o → Moves i k c
      by (got u) h = passed h (same a) refl
      by (refused f) h = absurd (let x : ◌≡◌ {A = Result Verdict Refusal} (Ok (Verdict.Move i k c)) (Err f) = v ∙ sym (stopped geo img a f h) in let z : ◌≡◌ {A = ℕ} 0 1 = cc in let y : ⊥ = omega arith in y)
