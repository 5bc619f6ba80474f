-- `drop_end` meets its contract. Assumes nothing.
use borrow.Author.Rules.{rules}
use Rattle.rmdir_judge.proofs.StepLaws.{small-end}
use Rattle.rmdir_judge.proofs.drop_end.Goals as goal

pub returns-then-size-lt512 : goal.returns-then-size-lt512
returns-then-size-lt512 c = small-end _ _ _ c.if-size-lt512.true
