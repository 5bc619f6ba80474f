-- `size_first` meets its contract. Assumes nothing.
use borrow.Author.Rules.{rules}
use mathlib.Core.Path.{refl, ◌∙◌}
use Rattle.dirmake.proofs.MakeLaws.{size_linked}
use Rattle.dirmake.proofs.MakeKeeps.{nlink-steady}
use Rattle.dirmake.proofs.size_first.Goals as goal

pub cut_to-requires : goal.cut_to-requires
cut_to-requires c = let p = c.requires in (nlink-steady _ _ p.1 _ p.0 _ refl c.inode_spot-at.ensures.is _ c.put_nlink.ensures).frame

pub returns : goal.returns
returns c = c.cut_to.ensures ∙ size_linked _ _ _ _ refl c.inode_spot-at.ensures.is c.put_nlink.ensures
