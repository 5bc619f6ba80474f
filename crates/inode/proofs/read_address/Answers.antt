-- `read_address` meets its contract. Assumes nothing.
use borrow.Author.Rules.{rules}
use Rattle.inode.specs.Shape.{address_at}
use Rattle.inode.proofs.read_address.Goals as goal

pub returns : goal.returns
unfolding address_at
returns c = cc
