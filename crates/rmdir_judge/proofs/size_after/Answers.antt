-- `size_after` meets its contract. Assumes nothing.
use borrow.Author.Rules.{rules}
use Rattle.rmdir_judge.proofs.StepLaws.{size_less, size-same}
use Rattle.rmdir_judge.proofs.size_after.Goals as goal

pub returns-then-up : goal.returns-then-up
returns-then-up c = size_less _ c.args.up c.if-up.true

pub returns : goal.returns
returns c = size-same _ c.args.up c.if-up.false
