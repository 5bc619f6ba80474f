-- `drop_tail` meets its contract. Assumes nothing.
use borrow.Author.Rules.{rules}
use Rattle.dirjudge.proofs.JudgeLaws.{tail-is}
use Rattle.dirjudge.proofs.drop_tail.Goals as goal

pub returns-then-h-ends_before : goal.returns-then-h-ends_before
returns-then-h-ends_before c = tail-is _ _ _ _ c.ends_before.ensures _ c.if-h-ends_before.true

pub returns : goal.returns
returns c = tail-is _ _ _ _ c.ends_before.ensures _ c.if-h-ends_before.false
