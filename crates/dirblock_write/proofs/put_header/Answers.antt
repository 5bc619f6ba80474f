-- `put_header` meets its contract. Assumes nothing.
use borrow.Author.Rules.{rules}
use Rattle.dirblock.specs.Write.{put_header}
use Rattle.dirblock_write.proofs.put_header.Goals as goal

pub returns : goal.returns
unfolding put_header
returns c = rw (c.put-3.ensures, c.put-2.ensures, c.put.ensures) at c.put-4.ensures
