-- `newdir` meets its contract. Assumes nothing.
use borrow.Author.Rules.{rules}
use Rattle.field.specs.Field.{zeros}
use Rattle.dirblock.proofs.WriteLaws.{newdir_told}
use Rattle.dirblock_write.proofs.newdir.Goals as goal

pub returns : goal.returns
unfolding zeros
returns c = newdir_told _ _ _ _ _ c.put_rec.ensures c.put_rec-2.ensures
