-- `spot_at` meets its contract. Assumes nothing.
use borrow.Author.Rules.{rules}
use Rattle.inode_run.proofs.FindLaws.{spot-is}
use Rattle.rename_judge.proofs.found.spot_at.Goals as goal

pub returns : goal.returns
returns c = (spot-is _ _ _ _ _ c.inode_spot-at.ensures.is c.read_shape-s.ensures, c.inode_spot-at.ensures.inside)
