-- `put_record` meets its contract. Assumes nothing.
use Rattle.inode_setblock.proofs.SetLaws.{record_made}
use Rattle.inode_setblock.proofs.put_record.Goals as goal

pub returns : goal.returns
returns c = record_made _ _ _ _ _ _ c.put_address.ensures c.put_blocks.ensures
