-- `smallest_read` meets its contract. Assumes nothing.
use borrow.Author.Rules.{rules}
use Rattle.dirblock.specs.Record.{smallest_read}
use Rattle.dirblock.proofs.smallest_read.Goals as goal

pub returns : goal.returns
unfolding smallest_read
returns c = search rules
