-- `read_generation` meets its contract. Assumes nothing.
use borrow.Author.Rules.{rules}
use Rattle.inode.specs.Places.{generation_at}
use Rattle.inode.proofs.read_generation.Goals as goal

pub returns : goal.returns
unfolding generation_at
returns c = cc
