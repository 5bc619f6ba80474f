-- `drop_tail` meets its contract. Assumes nothing.
use borrow.Author.Rules.{rules}
use Rattle.rmdir_judge.proofs.StepLaws.{small-tail}
use Rattle.rmdir_judge.proofs.drop_tail.Goals as goal

pub returns-then-size-lt512 : goal.returns-then-size-lt512
returns-then-size-lt512 c = small-tail _ _ _ c.if-size-lt512.true c.requires
