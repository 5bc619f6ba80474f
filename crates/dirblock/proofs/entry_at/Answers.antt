-- `entry_at` meets its contract. Assumes nothing.
use borrow.Author.Rules.{rules}
use Rattle.dirblock.specs.Record.{entry_at}
use Rattle.dirblock.proofs.entry_at.Goals as goal

pub returns : goal.returns
unfolding entry_at
returns c = rw (c.get.ensures, c.get-2.ensures, c.get-3.ensures, c.get-4.ensures)
