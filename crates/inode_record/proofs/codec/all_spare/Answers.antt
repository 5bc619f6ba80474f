-- `codec::all_spare` meets its contract. Assumes nothing.
use Rattle.inode_record.specs.Record.{listed, spare_at}
use Rattle.inode_record.proofs.codec.all_spare.Goals as goal

pub returns : goal.returns
unfolding listed spare_at
returns c = rw (c.get.ensures, c.get-2.ensures)
