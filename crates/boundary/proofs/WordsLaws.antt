-- A call's equation and its answer's words make the equation of what crosses. Assumes nothing.
use mathlib.Core.Path.{◌≡◌, ap, ◌∙◌}
use mathlib.Core.List.{List}
use Prim.Native.Nat.{ℕ}
use Rattle.boundary.specs.Words.{beside}

pub passed : {A B : Type 0} (f : A → B) {img : List ℕ} {a : A} {w : B} {p : List ℕ × A} → ◌≡◌ {A = List ℕ × A} (img, a) p → w ≡ f a → ◌≡◌ {A = List ℕ × B} (img, w) (beside f p)
passed {A} {B} f {img} call words = ap (λ (x : B). (img, x)) words ∙ ap (beside f) call
