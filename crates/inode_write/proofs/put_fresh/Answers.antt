-- `put_fresh` meets its contract. Assumes nothing.
use Rattle.inode_write.proofs.WriteLaws.{fresh-made}
use Rattle.inode_write.proofs.put_fresh.Goals as goal

pub returns : goal.returns
returns c = fresh-made _ _ _ _ _ _ _ c.address_at-place.ensures c.zero_bytes.ensures c.copy_bytes.ensures
