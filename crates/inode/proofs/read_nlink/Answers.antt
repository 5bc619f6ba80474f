-- `read_nlink` meets its contract. Assumes nothing.
use borrow.Author.Rules.{rules}
use Rattle.inode.specs.Places.{nlink_at}
use Rattle.inode.proofs.read_nlink.Goals as goal

pub returns : goal.returns
unfolding nlink_at
returns c = cc
