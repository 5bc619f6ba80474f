-- `kind_known` meets its contract. Assumes nothing.
use borrow.Author.Rules.{rules}
use Rattle.dirblock.specs.Record.{kind_known}
use Rattle.dirblock.proofs.kind_known.Goals as goal

pub returns : goal.returns
unfolding kind_known
returns c = search rules
