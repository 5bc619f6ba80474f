-- `first_free_in` meets its contract: no block passed is free. Assumes nothing.
use mathlib.Core.Path.{◌≡◌}
use Prim.Native.Nat.{◌-◌}
use Rattle.bits.specs.Upto.{first}
use Rattle.bits.specs.Bits.{block_free}
use Rattle.bits_find.proofs.first_free_in.Given as goal

abbrev pub invariant-loop-h : goal.invariant-loop-h
invariant-loop-h l = first (block_free l.frag l.img l.at) l.from (l.to - l.from) ≡ first (block_free l.frag l.img l.at) l.h (l.to - l.h)
