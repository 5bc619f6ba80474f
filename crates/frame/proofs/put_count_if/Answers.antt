-- `put_count_if` meets its contract. Assumes nothing.
use borrow.Author.Rules.{rules}
use Rattle.frame.specs.Writes.{count_write}
use Rattle.frame.proofs.put_count_if.Goals as goal

pub returns : goal.returns
unfolding count_write
returns c = cc
