-- `free_data` meets its contract. Assumes nothing.
use borrow.Author.Rules.{rules}
use mathlib.Core.Path.{sym, ◌∙◌}
use Rattle.ialloc_free.proofs.FreeLaws.{data-none, data-all}
use Rattle.ialloc_free.proofs.free_data.Goals as goal

pub returns-then-is_in_place : goal.returns-then-is_in_place
returns-then-is_in_place c = data-none _ _ _ _ c.read_shape-s.ensures (sym c.is_in_place.ensures ∙ c.if-is_in_place.true)

pub returns : goal.returns
returns c =
    data-all _ _ _ _ c.read_shape-s.ensures (sym c.is_in_place.ensures ∙ c.if-is_in_place.false) c.free_addresses.ensures
