-- `take_hit` meets its contract. Assumes nothing.
use borrow.Author.Rules.{rules}
use mathlib.Core.Path.{◌∙◌}
use Rattle.dirlink.proofs.LinkLaws.{take-alone, take-among}
use Rattle.dirlink.proofs.take_hit.Goals as goal

pub returns-then-h : goal.returns-then-h
returns-then-h c = c.drop_block.ensures ∙ take-alone _ _ _ _ _ _ c.if-h.true

pub returns : goal.returns
returns c = c.unlink_block.ensures ∙ take-among _ _ _ _ _ _ c.if-h.false
