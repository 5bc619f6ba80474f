-- `entry_at` meets its contract. Assumes nothing.
use borrow.Author.Rules.{rules}
use Rattle.attrrec.specs.Record.{entry_at}
use Rattle.attrrec.proofs.entry_at.Goals as goal

pub returns : goal.returns
unfolding entry_at
returns c = cc
