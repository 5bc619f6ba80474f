-- `walk::attr_in` meets its contract. Assumes nothing.
use borrow.Author.Rules.{rules}
use mathlib.Core.Path.{sym, ◌∙◌}
use Rattle.xattr.proofs.WindowLaws.{met-tail, met}
use Rattle.xattr.proofs.walk.attr_in.Goals as goal

pub returns-then-left-lt7 : goal.returns-then-left-lt7
returns-then-left-lt7 c = sym (met-tail _ _ _ c.requires _ _ c.left_of-left.ensures c.if-left-lt7.true)

pub returns : goal.returns
returns c = c.judge.ensures ∙ sym (met _ _ _ c.requires _ _ c.left_of-left.ensures c.if-left-lt7.false _ _ (search rules) c.gather.ensures _ c.entry_at.ensures)
