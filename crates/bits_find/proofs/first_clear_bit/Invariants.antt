-- `first_clear_bit` meets its contract: no bit of the bytes passed is clear. Assumes nothing.
use mathlib.Core.Path.{◌≡◌}
use Prim.Native.Nat.{◌-◌, ◌%◌, ◌<◌, ◌≤◌}
use Rattle.bits.specs.Upto.{first}
use Rattle.bits.specs.Bits.{is_clear}
use Rattle.bits_find.proofs.first_clear_bit.Given as goal

abbrev pub invariant-loop-f : goal.invariant-loop-f
invariant-loop-f l = (l.f ≤ l.n) × (l.f < l.n → l.f % 8 ≡ 0) × (first (is_clear l.img l.at) 0 l.n ≡ first (is_clear l.img l.at) l.f (l.n - l.f))

abbrev pub decreases-loop-f : goal.decreases-loop-f
decreases-loop-f l = l.n - l.f
