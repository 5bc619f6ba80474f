-- `first_free_block` meets its contract: no block of the bytes passed is free. Assumes nothing.
use mathlib.Core.Path.{◌≡◌}
use Prim.Native.Nat.{◌-◌, ◌*◌, ◌<◌, ◌≤◌}
use Rattle.bits.specs.Upto.{first}
use Rattle.bits.specs.Bits.{block_free}
use Rattle.bits_find.proofs.first_free_block.Given as goal

abbrev pub invariant-loop-h : goal.invariant-loop-h
invariant-loop-h l = (l.h ≤ l.nb) × (l.h < l.nb → l.frag * l.h ≡ 8 * l.i) × (first (block_free l.frag l.img l.at) 0 l.nb ≡ first (block_free l.frag l.img l.at) l.h (l.nb - l.h))

abbrev pub decreases-loop-h : goal.decreases-loop-h
decreases-loop-h l = l.nb - l.h
