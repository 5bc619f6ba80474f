-- `read_extsize` meets its contract. Assumes nothing.
use borrow.Author.Rules.{rules}
use Rattle.inode.specs.Places.{extsize_at}
use Rattle.inode.proofs.read_extsize.Goals as goal

pub returns : goal.returns
unfolding extsize_at
returns c = cc
