-- `map_ok` meets its contract. Assumes nothing.
use native.Mathlib.Omega.{arith}
use Rattle.sound.proofs.Laws.{reserved-within}
use Rattle.sound.specs.Clauses.{map_ok}
use Rattle.sound.proofs.map_ok.Goals as goal

pub overflow_sub-geo : goal.overflow_sub-geo
overflow_sub-geo c = let a = c.args in omega (arith, reserved-within a.geo a.g)

pub clear_bits-requires-2 : goal.clear_bits-requires-2
clear_bits-requires-2 c = let a = c.args in omega (arith, reserved-within a.geo a.g)

pub returns : goal.returns
unfolding map_ok
returns c = rw (c.clear_bits.ensures, c.clear_bits-2.ensures, c.reserved_from-first.ensures)
