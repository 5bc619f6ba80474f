-- `first_clear_in` meets its contract: no bit passed is clear. Assumes nothing.
use mathlib.Core.Path.{◌≡◌}
use Prim.Native.Nat.{◌-◌}
use Rattle.bits.specs.Upto.{first}
use Rattle.bits.specs.Bits.{is_clear}
use Rattle.bits_find.proofs.first_clear_in.Given as goal

abbrev pub invariant-loop-f : goal.invariant-loop-f
invariant-loop-f l = first (is_clear l.img l.at) l.from (l.to - l.from) ≡ first (is_clear l.img l.at) l.f (l.to - l.f)
