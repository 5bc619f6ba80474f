-- `put_total_if` meets its contract. Assumes nothing.
use borrow.Author.Rules.{rules}
use Rattle.frame.specs.Writes.{total_write}
use Rattle.frame.proofs.put_total_if.Goals as goal

pub returns : goal.returns
unfolding total_write
returns c = cc
