-- `read_size` meets its contract. Assumes nothing.
use borrow.Author.Rules.{rules}
use Rattle.inode.specs.Places.{size_at}
use Rattle.inode.proofs.read_size.Goals as goal

pub returns : goal.returns
unfolding size_at
returns c = cc
