-- `looked_at` meets its contract. Assumes nothing.
use borrow.Author.Rules.{rules}
use Rattle.dirblock.specs.Record.{findable}
use Rattle.dirblock_search.proofs.looked_at.Goals as goal

pub returns-then-whiteouts : goal.returns-then-whiteouts
unfolding findable
returns-then-whiteouts c = rw c.if-whiteouts.true

pub returns : goal.returns
returns c = rw c.if-whiteouts.false c.is_listed.ensures
