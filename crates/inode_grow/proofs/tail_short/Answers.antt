-- `tail_short` meets its contract. Assumes nothing.
use Rattle.inode_grow.proofs.GrowLaws.{short-is}
use Rattle.inode_grow.proofs.tail_short.Goals as goal

pub returns : goal.returns
returns c = short-is _ _ _ _ _ c.size_in-e.ensures.0 c.tail_then.ensures
