-- What is read of a record alone stays where nothing is written. Assumes nothing.
use mathlib.Core.Path.{◌≡◌}
use mathlib.Core.List.{List}
use mathlib.Core.Logic.{◌⊎◌, inl, inr, ⊎_elim}
use Prim.Native.Nat.{ℕ, ◌+◌, ◌*◌, ◌<◌, ◌≤◌}
use native.Mathlib.Omega.{arith}
use Rattle.field.specs.Field.{num, Kept}
use Rattle.field.specs.declared.Order.{Order}
use Rattle.field.proofs.Laws.{kept-num}
use Rattle.inode.specs.Shape.{shape_of, address_at}
use Rattle.inode.specs.Places.{extb_at}

-- a record outside the bytes that change is as it was
module _ {a n : ℕ} {xs ys : List ℕ} (o : Order) (at : ℕ) (k : Kept a n xs ys) (h : (at + 256 ≤ a) ⊎ (a + n ≤ at)) where
  pub kept_at : (w p : ℕ) → p + w ≤ 256 → num o w (at + p) ys ≡ num o w (at + p) xs
  kept_at w p b = kept-num o w (at + p) k (⊎_elim (λ l. inl (omega arith)) (λ r. inr (omega arith)) h)

  pub kept-address : (j : ℕ) → j < 15 → address_at o at j ys ≡ address_at o at j xs
  unfolding address_at
  kept-address j b = kept-num o 8 (at + 112 + j * 8) k (⊎_elim (λ l. inl (omega arith)) (λ r. inr (omega arith)) h)

  pub kept-extb : (j : ℕ) → j < 2 → extb_at o at j ys ≡ extb_at o at j xs
  unfolding extb_at
  kept-extb j b = kept-num o 8 (at + 96 + j * 8) k (⊎_elim (λ l. inl (omega arith)) (λ r. inr (omega arith)) h)

  pub kept-shape : shape_of o at ys ≡ shape_of o at xs
  unfolding shape_of
  kept-shape = λ i. record { mode = kept_at 2 0 (omega arith) i; size = kept_at 8 16 (omega arith) i; blocks = kept_at 8 24 (omega arith) i }
