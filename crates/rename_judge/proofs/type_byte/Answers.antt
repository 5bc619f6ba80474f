-- `type_byte` meets its contract. Assumes nothing.
use borrow.Author.Rules.{rules}
use Rattle.inode.specs.Shape.{type_of}
use Rattle.rename_judge.proofs.type_byte.Goals as goal

pub returns : goal.returns
unfolding type_of
returns c = cc
