-- `links_of` meets its contract. Assumes nothing.
use borrow.Author.Rules.{rules}
use Rattle.rename_judge.proofs.RenameLaws.{links-is}
use Rattle.rename_judge.proofs.found.links_of.Goals as goal

pub returns : goal.returns
returns c = links-is _ _ _ _ _ c.inode_spot-at.ensures.is c.read_nlink.ensures
