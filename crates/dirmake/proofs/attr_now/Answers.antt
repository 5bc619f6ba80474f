-- `attr_now` meets its contract. Assumes nothing.
use borrow.Author.Rules.{rules}
use mathlib.Core.Path.{refl}
use Rattle.dirmake.proofs.MakeLaws.{attr_told}
use Rattle.dirmake.proofs.attr_now.Goals as goal

pub returns : goal.returns
returns c = attr_told _ _ _ _ _ refl c.inode_spot-at.ensures.is c.read_inode.ensures c.as_attr.ensures
