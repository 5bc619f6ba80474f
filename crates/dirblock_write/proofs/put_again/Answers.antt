-- `put_again` meets its contract. Assumes nothing.
use borrow.Author.Rules.{rules}
use native.Mathlib.Omega.{arith}
use Rattle.dirblock.specs.Write.{put_rec}
use Rattle.dirblock.proofs.WriteLaws.{name-stands}
use Rattle.dirblock_write.proofs.put_again.Goals as goal

pub returns : goal.returns
unfolding put_rec
returns c = rw (name-stands c.args.o c.args.pos c.args.e c.args.block.now (omega arith)) (rw c.put_header.ensures at c.zero_bytes.ensures)
