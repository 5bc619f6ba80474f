-- `count_blocks` meets its contract: the total is that of the bytes passed. Assumes nothing.
use mathlib.Core.Path.{◌≡◌}
use Prim.Native.Nat.{◌-◌, ◌*◌, ◌<◌, ◌≤◌}
use Rattle.bits.specs.Bits.{free_blocks}
use Rattle.bits_count.proofs.count_blocks.Given as goal

abbrev pub invariant-loop-h : goal.invariant-loop-h
invariant-loop-h l = (l.h ≤ l.nb) × (l.h < l.nb → l.frag * l.h ≡ 8 * l.i) × (l.total ≡ free_blocks l.frag l.img l.at l.h)

abbrev pub decreases-loop-h : goal.decreases-loop-h
decreases-loop-h l = l.nb - l.h
