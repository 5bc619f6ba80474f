-- `codec::all_indirect` meets its contract. Assumes nothing.
use Rattle.inode_record.specs.Record.{listed}
use Rattle.inode_record.proofs.codec.all_indirect.Goals as goal

pub returns : goal.returns
unfolding listed
returns c = rw (c.read_address.ensures, c.read_address-2.ensures, c.read_address-3.ensures)
