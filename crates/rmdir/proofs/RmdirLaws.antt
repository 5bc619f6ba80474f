-- Laws of a directory taken away: what each step leaves, case by case. Assumes nothing.
use Rattle.std.specs.Prelude.{Result, Ok, Err}
use mathlib.Core.Path.{◌≡◌, refl, sym, ap, ◌∙◌}
use mathlib.Core.Bool.{true, false}
use mathlib.Core.List.{List}
use Prim.Native.Nat.{ℕ}
use Rattle.refusal.specs.declared.Refusal.{Refusal}
use Rattle.refusal.specs.declared.Refusal.TheVariants.{Damaged, ReadOnly}
use Rattle.store.specs.Act.{Out, got, refused, Left, leaves}
use Rattle.store.proofs.ActLaws.{step-good, step-bad, leaves-refuse}
use Rattle.volume.specs.declared.Geometry.{Geometry}
use Rattle.volume.specs.declared.Volume.{Volume}
use Rattle.sound.specs.Test.{taken_of}
use Rattle.dircall.proofs.CallLaws.{call-unsound, call-read-only, call-taken}
use Rattle.books.proofs.KeepLaws.{Keeps, keeps-bind}
use Rattle.stages.specs.Stages.{in_order}
use Rattle.dirwrite.specs.Write.{free_found}
use Rattle.dirwrite.proofs.WriteKeeps.{keeps-free-found}
use Rattle.dirlink.specs.Link.{unlink_name}
use Rattle.dirlink.proofs.LinkKeeps.{keeps-unlink-name}
use Rattle.dirtake.specs.Take.{take_name}
use Rattle.dirtake.proofs.TakeLaws.{keeps-take-name}
use Rattle.rmdir_judge.specs.Rmdir.{dot, dotdot, gone_in, rmdir_stages, removal_of}
use Rattle.rmdir.specs.Rmdir.{own_gone, emptied, remove_dir, removing, rmdir_for, rmdir_call}
use Rattle.refusal.specs.Refusal.{damage}

-- ---- the work

module _ (geo : Geometry) (i : ℕ) (img : List ℕ) {x : List ℕ} {o : Out (Unit {0})} where
  pub own-gone : (x, o) ≡ leaves (take_name geo i dot) img → o ≡ got (tt {0}) → leaves (free_found geo i) x ≡ leaves (own_gone geo i) img
  unfolding own_gone
  own-gone r e = step-good (take_name geo i dot) (λ _. free_found geo i) img r e

  pub own-stop : (x, o) ≡ leaves (take_name geo i dot) img → {f : Refusal} → o ≡ refused f → ◌≡◌ {A = Left (Unit {0})} (x, refused f) (leaves (own_gone geo i) img)
  unfolding own_gone
  own-stop r e = step-bad (take_name geo i dot) (λ _. free_found geo i) img r e

  pub parent-gone : (x, o) ≡ leaves (take_name geo i dotdot) img → o ≡ got (tt {0}) → leaves (own_gone geo i) x ≡ leaves (emptied geo i) img
  unfolding emptied
  parent-gone r e = step-good (take_name geo i dotdot) (λ _. own_gone geo i) img r e

  pub parent-stop : (x, o) ≡ leaves (take_name geo i dotdot) img → {f : Refusal} → o ≡ refused f → ◌≡◌ {A = Left (Unit {0})} (x, refused f) (leaves (emptied geo i) img)
  unfolding emptied
  parent-stop r e = step-bad (take_name geo i dotdot) (λ _. own_gone geo i) img r e

module _ (geo : Geometry) (d : ℕ) (name : List ℕ) (i : ℕ) (img : List ℕ) {x : List ℕ} {o : Out ℕ} (r : (x, o) ≡ leaves (unlink_name geo d name) img) where
  pub name-gone : {v : ℕ} → o ≡ got v → leaves (emptied geo i) x ≡ leaves (remove_dir geo d name i) img
  unfolding remove_dir
  name-gone e = step-good (unlink_name geo d name) (λ _. emptied geo i) img r e

  pub name-stop : {f : Refusal} → o ≡ refused f → ◌≡◌ {A = Left (Unit {0})} (x, refused f) (leaves (remove_dir geo d name i) img)
  unfolding remove_dir
  name-stop e = step-bad (unlink_name geo d name) (λ _. emptied geo i) img r e

-- ---- cut after any store, or refused, it leaves a volume laid out as it was

module _ (geo : Geometry) (i : ℕ) where
  pub keeps-own : Keeps geo (own_gone geo i)
  unfolding own_gone
  keeps-own = keeps-bind geo (keeps-take-name geo i dot) (λ _. keeps-free-found geo i)

  pub keeps-emptied : Keeps geo (emptied geo i)
  unfolding emptied
  keeps-emptied = keeps-bind geo (keeps-take-name geo i dotdot) (λ _. keeps-own)

  pub keeps-remove : (d : ℕ) (name : List ℕ) → Keeps geo (remove_dir geo d name i)
  unfolding remove_dir
  keeps-remove d name = keeps-bind geo (keeps-unlink-name geo d name) (λ _. keeps-emptied)

-- ---- the call

module _ (geo : Geometry) (d : ℕ) (name img : List ℕ) {r : (Result ℕ Refusal)} (q : r ≡ removal_of (gone_in geo img d name) (in_order (rmdir_stages geo img d name))) where
  pub judged-dir : {i : ℕ} → r ≡ Ok i → leaves (remove_dir geo d name i) img ≡ leaves (rmdir_for d name geo) img
  unfolding rmdir_for leaves
  judged-dir e = rw (← q, e)

  pub judged-no : {f : Refusal} → r ≡ Err f → ◌≡◌ {A = Left (Unit {0})} (img, refused f) (leaves (rmdir_for d name geo) img)
  unfolding rmdir_for leaves
  judged-no {f} e = rw (← q, e) (leaves-refuse f img)

module _ (vol : Volume) (d : ℕ) (name img : List ℕ) where
  pub rmdir-unsound : taken_of img ≡ Err damage → ◌≡◌ {A = Left (Unit {0})} (img, refused Damaged) (leaves (rmdir_call vol d name) img)
  unfolding rmdir_call
  rmdir-unsound e = call-unsound vol (rmdir_for d name) img e

  module _ (geo : Geometry) (t : taken_of img ≡ Ok geo) where
    pub rmdir-read-only : vol.writable ≡ false → ◌≡◌ {A = Left (Unit {0})} (img, refused ReadOnly) (leaves (rmdir_call vol d name) img)
    unfolding rmdir_call
    rmdir-read-only w = call-read-only vol (rmdir_for d name) img geo t w

    pub rmdir-taken : vol.writable ≡ true → leaves (rmdir_for d name geo) img ≡ leaves (rmdir_call vol d name) img
    unfolding rmdir_call
    rmdir-taken w = call-taken vol (rmdir_for d name) img geo t w
