-- `read_shape` meets its contract. Assumes nothing.
use borrow.Author.Rules.{rules}
use Rattle.inode.specs.Shape.{shape_of}
use Rattle.inode.proofs.read_shape.Goals as goal

pub returns : goal.returns
unfolding shape_of
returns c = cc
