-- `read_blocks` meets its contract. Assumes nothing.
use borrow.Author.Rules.{rules}
use Rattle.inode.specs.Places.{blocks_at}
use Rattle.inode.proofs.read_blocks.Goals as goal

pub returns : goal.returns
unfolding blocks_at
returns c = cc
