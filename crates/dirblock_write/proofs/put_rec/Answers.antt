-- `put_rec` meets its contract. Assumes nothing.
use borrow.Author.Rules.{rules}
use mathlib.Core.Path.{refl}
use lib.ListN.{length}
use Rattle.dirblock.specs.Write.{put_rec}
use Rattle.dirblock.proofs.WriteLaws.{part-whole}
use Rattle.dirblock_write.proofs.put_rec.Goals as goal

pub returns : goal.returns
unfolding put_rec
returns c =
    rw (c.copy_bytes.ensures, part-whole (length c.args.name.now) c.args.name.now refl, c.put_header.ensures, c.requires.1) at c.zero_bytes.ensures
