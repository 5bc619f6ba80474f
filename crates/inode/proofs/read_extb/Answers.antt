-- `read_extb` meets its contract. Assumes nothing.
use borrow.Author.Rules.{rules}
use Rattle.inode.specs.Places.{extb_at}
use Rattle.inode.proofs.read_extb.Goals as goal

pub returns : goal.returns
unfolding extb_at
returns c = cc
