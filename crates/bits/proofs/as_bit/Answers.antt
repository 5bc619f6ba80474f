-- `as_bit` meets its contract. Assumes nothing.
use Rattle.std.proofs.Common.{arith, ◌≡◌, Bool, true, false, ℕ, ◌<◌}
use mir.Val.{bool_byte}
use Rattle.bits.specs.Upto.{as_bit}
use Rattle.bits.proofs.as_bit.Goals as goal

told : (free : Bool) (n : ℕ) → n ≡ bool_byte free → (n ≡ as_bit free) × (n < 2)
unfolding as_bit
told true n e = (e, omega arith)
told false n e = (e, omega arith)

pub returns : goal.returns
returns c = told _ _ c.from.ensures
