-- `unlink_later` meets its contract. Assumes nothing.
use borrow.Author.Rules.{rules}
use mathlib.Core.Path.{refl}
use Rattle.dirblock.proofs.LinkLaws.{later-sum, later-fits, later_told}
use Rattle.dirblock_link.proofs.unlink_later.Goals as goal

pub lengthen-requires : goal.lengthen-requires
lengthen-requires c = later-sum _ _ _ _ _ c.entry_at-p.ensures c.requires.1 c.requires.0

pub put_again-requires : goal.put_again-requires
put_again-requires c = later-fits _ _ _ _ _ c.entry_at-p.ensures c.requires.1 _ _ refl c.lengthen.ensures

pub returns : goal.returns
returns c = later_told _ _ _ _ _ _ _ c.entry_at-p.ensures c.lengthen.ensures c.put_again.ensures
