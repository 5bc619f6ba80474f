-- `is_sized` meets its contract. Assumes nothing.
use borrow.Author.Rules.{rules}
use Rattle.inode.specs.Shape.{sized}
use Rattle.inode.proofs.is_sized.Goals as goal

pub returns : goal.returns
unfolding sized
returns c = cc
