-- Laws of rename: what it leaves by its verdict. Assumes nothing.
use Rattle.std.specs.Prelude.{Result, Ok, Err}
use mathlib.Core.Path.{◌≡◌, refl, sym, ap, ◌∙◌}
use mathlib.Core.Bool.{Bool, true, false}
use mathlib.Core.List.{List}
use Prim.Native.Nat.{ℕ}
use Rattle.refusal.specs.declared.Refusal.{Refusal}
use Rattle.refusal.specs.declared.Refusal.TheVariants.{Damaged, ReadOnly}
use Rattle.store.specs.Act.{got, refused, Left, leaves}
use Rattle.store.proofs.ActLaws.{leaves-pure, leaves-refuse}
use Rattle.volume.specs.declared.Geometry.{Geometry}
use Rattle.volume.specs.declared.Volume.{Volume}
use Rattle.sound.specs.Test.{taken_of}
use Rattle.dircall.proofs.CallLaws.{call-unsound, call-read-only, call-taken}
use Rattle.dirmove.specs.Move.{move_name}
use Rattle.rename_judge.specs.declared.Verdict.{Verdict}
use Rattle.rename_judge.specs.declared.Verdict.TheVariants as Verdict
use Rattle.rename_judge.specs.Rename.{Asked, verdict_of}
use Rattle.rename.specs.Rename.{moving, rename_for, rename_call}
use Rattle.refusal.specs.Refusal.{damage}

module _ (a : Asked) (geo : Geometry) (img : List ℕ) {v : (Result Verdict Refusal)} (q : v ≡ verdict_of geo img a) where
  pub rename-same : {i : ℕ} → v ≡ Ok (Verdict.Same i) → ◌≡◌ {A = Left ℕ} (img, got i) (leaves (rename_for a geo) img)
  unfolding rename_for leaves
  rename-same {i} e = rw (← q, e) (leaves-pure i img)

  pub rename-moves : {i kind : ℕ} {clears : Bool} → v ≡ Ok (Verdict.Move i kind clears) → leaves (move_name geo a.to a.new a.from a.old clears i kind) img ≡ leaves (rename_for a geo) img
  unfolding rename_for leaves
  rename-moves e = rw (← q, e)

  pub rename-no : {f : Refusal} → v ≡ Err f → ◌≡◌ {A = Left ℕ} (img, refused f) (leaves (rename_for a geo) img)
  unfolding rename_for leaves
  rename-no {f} e = rw (← q, e) (leaves-refuse f img)

-- ---- the public call

module _ (vol : Volume) (a : Asked) (img : List ℕ) where
  pub rename-unsound : taken_of img ≡ Err damage → ◌≡◌ {A = Left ℕ} (img, refused Damaged) (leaves (rename_call vol a) img)
  unfolding rename_call
  rename-unsound e = call-unsound vol (rename_for a) img e

  module _ (geo : Geometry) (t : taken_of img ≡ Ok geo) where
    pub rename-read-only : vol.writable ≡ false → ◌≡◌ {A = Left ℕ} (img, refused ReadOnly) (leaves (rename_call vol a) img)
    unfolding rename_call
    rename-read-only w = call-read-only vol (rename_for a) img geo t w

    pub rename-taken : vol.writable ≡ true → leaves (rename_for a geo) img ≡ leaves (rename_call vol a) img
    unfolding rename_call
    rename-taken w = call-taken vol (rename_for a) img geo t w
