-- `codec::all_extb` meets its contract. Assumes nothing.
use Rattle.inode_record.specs.Record.{listed}
use Rattle.inode_record.proofs.codec.all_extb.Goals as goal

pub returns : goal.returns
unfolding listed
returns c = rw (c.read_extb.ensures, c.read_extb-2.ensures)
