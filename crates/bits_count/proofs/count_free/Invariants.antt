-- `count_free` meets its contract: the total is that of the bytes passed. Assumes nothing.
use mathlib.Core.Path.{◌≡◌}
use Prim.Native.Nat.{◌*◌}
use Rattle.bits.specs.Bits.{free_frags}
use Rattle.bits_count.proofs.count_free.Given as goal

abbrev pub invariant-loop-i : goal.invariant-loop-i
invariant-loop-i l = l.total ≡ free_frags l.img l.at (8 * l.i)
