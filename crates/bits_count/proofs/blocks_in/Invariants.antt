-- `blocks_in` meets its contract: n is the number of free blocks passed. Assumes nothing.
use mathlib.Core.Path.{◌≡◌}
use Prim.Native.Nat.{◌+◌, ◌≤◌}
use Rattle.bits.specs.Bits.{free_blocks}
use Rattle.bits_count.proofs.blocks_in.Given as goal

abbrev pub invariant-loop-h : goal.invariant-loop-h
invariant-loop-h l = (l.n ≤ l.h) × (free_blocks l.frag l.img l.at l.from + l.n ≡ free_blocks l.frag l.img l.at l.h)
