-- `is_listed` meets its contract. Assumes nothing.
use borrow.Author.Rules.{rules}
use Rattle.dirblock.specs.Record.{listed}
use Rattle.dirblock_search.proofs.is_listed.Goals as goal

pub returns : goal.returns
unfolding listed
returns c = search rules
