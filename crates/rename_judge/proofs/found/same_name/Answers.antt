-- `same_name` meets its contract. Assumes nothing.
use borrow.Author.Rules.{rules}
use Rattle.rename_judge.proofs.RenameLaws.{same-long, same-told}
use Rattle.rename_judge.proofs.found.same_name.Goals as goal

pub returns-then-a-b : goal.returns-then-a-b
returns-then-a-b c = same-told _ _ _ c.if-a-b.true c.same_bytes.ensures.yes c.same_bytes.ensures.no

pub returns : goal.returns
returns c = same-long _ _ c.if-a-b.false
