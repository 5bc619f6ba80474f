-- `shrink` meets its contract. Assumes nothing.
use borrow.Author.Rules.{rules}
use Rattle.dirblock.proofs.LinkLaws.{shrunk-is}
use Rattle.dirblock_link.proofs.shrink.Goals as goal

pub returns : goal.returns
returns c = shrunk-is _ _ c.smallest_read.ensures.0
