-- `type_of` meets its contract. Assumes nothing.
use Rattle.inode.specs.Shape.{type_of}
use Rattle.inode.proofs.type_of.Goals as goal

pub returns : goal.returns
unfolding type_of
returns c = cc
