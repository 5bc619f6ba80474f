-- `as_attr` meets its contract. Assumes nothing.
use Rattle.inode.specs.Kind.{attr_of}
use Rattle.inode.proofs.as_attr.Goals as goal

pub returns : goal.returns
unfolding attr_of
returns c = cc
