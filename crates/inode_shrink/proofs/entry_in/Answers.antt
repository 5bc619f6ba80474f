-- `entry_in` meets its contract. Assumes nothing.
use Rattle.inode_shrink.specs.Shrink.{entry_in}
use Rattle.inode_shrink.proofs.entry_in.Goals as goal

pub returns : goal.returns
unfolding entry_in
returns c = cc
