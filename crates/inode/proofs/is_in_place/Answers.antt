-- `is_in_place` meets its contract. Assumes nothing.
use borrow.Author.Rules.{rules}
use Rattle.inode.specs.Shape.{in_place}
use Rattle.inode.proofs.is_in_place.Goals as goal

pub returns : goal.returns
unfolding in_place
returns c = cc
