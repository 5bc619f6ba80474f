-- `size_of_block` meets its contract. Assumes nothing.
use borrow.Author.Rules.{rules}
use mathlib.Core.Path.{sym, ◌∙◌}
use Rattle.inode_read.proofs.CallLaws.{size-unsized, size-held, size-past}
use Rattle.inode_block.proofs.size_of_block.Goals as goal

pub returns-then-not-is_sized : goal.returns-then-not-is_sized
returns-then-not-is_sized c = size-unsized _ _ _ (sym c.is_sized.ensures ∙ c.if-not-is_sized.true)

pub returns : goal.returns
returns c = size-held _ _ _ (sym c.is_sized.ensures ∙ c.if-not-is_sized.false) _ c.in-Some.ensures

pub returns-in_default : goal.returns-in_default
returns-in_default c = size-past _ _ _ (sym c.is_sized.ensures ∙ c.if-not-is_sized.false) c.in_default.ensures
