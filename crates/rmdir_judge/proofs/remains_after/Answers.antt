-- `remains_after` meets its contract. Assumes nothing.
use borrow.Author.Rules.{rules}
use Rattle.rmdir_judge.proofs.StepLaws.{remains-is}
use Rattle.rmdir_judge.proofs.remains_after.Goals as goal

pub returns : goal.returns
returns c = remains-is _ _ _ _ _ _ c.inode_spot-at.ensures.is c.read_nlink-links.ensures
