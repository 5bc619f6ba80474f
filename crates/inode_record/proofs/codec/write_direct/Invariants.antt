-- `codec::write_direct` meets its contract: after k turns the first k addresses are written. Assumes nothing.
use mathlib.Core.Path.{◌≡◌}
use lib.ListN.{length}
use Rattle.store.specs.Store.{apply}
use Rattle.inode_record.specs.Record.{written, row}
use Rattle.inode_record.proofs.codec.write_direct.Given as goal

abbrev pub invariant-loop-k : goal.invariant-loop-k
invariant-loop-k l = (length l.img ≡ length l.initial.img) × (l.img ≡ apply (written l.o l.at (row 112 8 l.k l.fn.list)) l.initial.img)
