-- `count_map` meets its contract: the counts are those of the bytes passed. Assumes nothing.
use mathlib.Core.Path.{◌≡◌}
use Prim.Native.Nat.{◌*◌, min}
use Rattle.bits.specs.Bits.{free_blocks, free_frags}
use Rattle.bits_count.proofs.count_map.Given as goal

abbrev pub invariant-loop-i : goal.invariant-loop-i
invariant-loop-i l = (l.blocks ≡ free_blocks l.frag l.img l.at (min (l.per * l.i) l.nb)) × (l.frags ≡ free_frags l.img l.at (min (8 * l.i) l.n))
