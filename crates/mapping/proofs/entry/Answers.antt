-- `entry` meets its contract: a list that is a run lies in the image. Assumes nothing.
use native.Mathlib.Omega.{arith}
use Rattle.mapping.specs.Mapping.{entry_at}
use Rattle.mapping.proofs.MappingLaws.{entry-inside, list_inside}
use Rattle.mapping.proofs.entry.Goals as goal

pub address_at-requires : goal.address_at-requires
address_at-requires c = let h = c.requires in list_inside _ _ h.0 _ h.1

pub overflow_mul-at : goal.overflow_mul-at
overflow_mul-at c = let h = c.requires in omega (arith, entry-inside _ _ h.0 _ _ h.1 h.2, h.0.laid.high)

pub overflow_add-at : goal.overflow_add-at
overflow_add-at c = let h = c.requires in omega (arith, entry-inside _ _ h.0 _ _ h.1 h.2, h.0.laid.high, c.address_at.ensures)

pub get-requires : goal.get-requires
get-requires c = let h = c.requires in omega (arith, entry-inside _ _ h.0 _ _ h.1 h.2, c.address_at.ensures)

pub returns : goal.returns
unfolding entry_at
returns c = cc
