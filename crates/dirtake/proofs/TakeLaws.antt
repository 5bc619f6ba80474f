-- Laws of a name taken away and of its inode's link: what the call leaves, case by case; and that it keeps the layout at every cut. Assumes nothing.
use mathlib.Core.Path.{◌≡◌}
use mathlib.Core.List.{List}
use Prim.Native.Nat.{ℕ}
use Rattle.refusal.specs.declared.Refusal.{Refusal}
use Rattle.store.specs.Act.{Out, got, refused, Left, leaves}
use Rattle.store.proofs.ActLaws.{step-good, step-bad}
use Rattle.volume.specs.declared.Geometry.{Geometry}
use Rattle.books.proofs.KeepLaws.{Keeps, keeps-bind}
use Rattle.dirwrite.specs.Write.{free_found}
use Rattle.dirwrite.proofs.WriteKeeps.{keeps-free-found}
use Rattle.dirlink.specs.Link.{unlink_name}
use Rattle.dirlink.proofs.LinkKeeps.{keeps-unlink-name}
use Rattle.dirtake.specs.Take.{take_name}

module _ (geo : Geometry) (d : ℕ) (name : List ℕ) where
  module _ (img : List ℕ) {x : List ℕ} {o : Out ℕ} (r : (x, o) ≡ leaves (unlink_name geo d name) img) where
    pub take-gone : {i : ℕ} → o ≡ got i → leaves (free_found geo i) x ≡ leaves (take_name geo d name) img
    unfolding take_name
    take-gone e = step-good (unlink_name geo d name) (free_found geo) img r e

    pub take-stop : {f : Refusal} → o ≡ refused f → ◌≡◌ {A = Left (Unit {0})} (x, refused f) (leaves (take_name geo d name) img)
    unfolding take_name
    take-stop e = step-bad (unlink_name geo d name) (free_found geo) img r e

  -- cut after any store, or refused, it leaves a volume laid out as it was
  pub keeps-take-name : Keeps geo (take_name geo d name)
  unfolding take_name
  keeps-take-name = keeps-bind geo (keeps-unlink-name geo d name) (λ i. keeps-free-found geo i)
