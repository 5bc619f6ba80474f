-- `smallest_new` meets its contract. Assumes nothing.
use borrow.Author.Rules.{rules}
use Rattle.dirblock.specs.Record.{smallest_new}
use Rattle.dirblock.proofs.smallest_new.Goals as goal

pub returns : goal.returns
unfolding smallest_new
returns c = search rules
