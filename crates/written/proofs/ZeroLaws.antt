-- Zeros read as a number. Assumes nothing.
use mathlib.Core.Path.{◌≡◌, refl, sym, ap, subst, ◌∙◌}
use mathlib.Core.List.{List}
use Prim.Native.Nat.{ℕ, ◌+◌, ◌≤◌}
use native.Mathlib.Omega.{arith}
use lib.ListN.{length, get_or}
use Rattle.field.specs.declared.Order.{Order}
use Rattle.field.specs.declared.Order.TheVariants.{Little, Big}
use Rattle.field.specs.Field.{part, zeros, value, turn, num}
use Rattle.field.proofs.Laws.{part-is, length-zeros, get_or-zeros}
use Rattle.store.specs.Where.{Range}

eight_zeros : (o : Order) → value (turn o (zeros 8)) ≡ 0
unfolding value turn zeros
eight_zeros Little = refl
eight_zeros Big = refl

pub number-zero : (o : Order) (at : ℕ) (xs : List ℕ) → at + 8 ≤ length xs → ((j : ℕ) → Range at 8 j → get_or xs j 0 ≡ 0) → num o 8 at xs ≡ 0
unfolding num
number-zero o at xs l z =
    let n = length-zeros 8 in
    let p : part 8 at xs ≡ zeros 8 = subst (λ (k : ℕ). part k at xs ≡ zeros 8) n (part-is at (zeros 8) xs (omega (arith, n)) (λ i b. z (at + i) (omega arith, omega (arith, n)) ∙ sym (get_or-zeros 8 i))) in
    ap (λ (b : List ℕ). value (turn o b)) p ∙ eight_zeros o
