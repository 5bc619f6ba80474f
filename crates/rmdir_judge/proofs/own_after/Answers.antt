-- `own_after` meets its contract. Assumes nothing.
use borrow.Author.Rules.{rules}
use Rattle.rmdir_judge.proofs.StepLaws.{own-shared, own-found}
use Rattle.rmdir_judge.proofs.own_after.Goals as goal

pub returns-then-up-own : goal.returns-then-up-own
returns-then-up-own c = own-shared _ _ _ _ _ c.if-up-own.true _ c.alone_after.ensures

pub returns : goal.returns
returns c = own-found _ _ _ _ _ c.if-up-own.false
