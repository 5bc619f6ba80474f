-- `land` meets its contract. Assumes nothing.
use mathlib.Core.Path.{sym, ◌∙◌}
use Rattle.inode_read.proofs.CallLaws.{land-in-place, land-run}
use Rattle.inode_block.proofs.land.Goals as goal

pub returns-then-is_in_place : goal.returns-then-is_in_place
returns-then-is_in_place c = land-in-place _ _ _ _ (sym c.is_in_place.ensures ∙ c.if-is_in_place.true)

pub returns-in-At : goal.returns-in-At
returns-in-At c = land-run _ _ _ _ (sym c.is_in_place.ensures ∙ c.if-is_in_place.false) _ (sym c.in-At.is ∙ c.run_of.ensures)

pub returns-in-Hole : goal.returns-in-Hole
returns-in-Hole c = land-run _ _ _ _ (sym c.is_in_place.ensures ∙ c.if-is_in_place.false) _ (sym c.in-Hole.is ∙ c.run_of.ensures)

pub returns-in-Past : goal.returns-in-Past
returns-in-Past c = land-run _ _ _ _ (sym c.is_in_place.ensures ∙ c.if-is_in_place.false) _ (sym c.in-Past.is ∙ c.run_of.ensures)

pub returns-in-Bad : goal.returns-in-Bad
returns-in-Bad c = land-run _ _ _ _ (sym c.is_in_place.ensures ∙ c.if-is_in_place.false) _ (sym c.in-Bad.is ∙ c.run_of.ensures)
