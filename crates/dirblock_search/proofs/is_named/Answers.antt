-- `is_named` meets its contract. Assumes nothing.
use borrow.Author.Rules.{rules}
use Rattle.dirblock.specs.Search.{named}
use Rattle.dirblock_search.proofs.is_named.Goals as goal

pub returns : goal.returns
unfolding named
returns c = rw (c.has_name.ensures, c.looked_at.ensures)
