-- `codec::write_times` meets its contract. Assumes nothing.
use Rattle.inode_record.proofs.SlotLaws.{slots-then}
use Rattle.inode_record.proofs.codec.write_times.Goals as goal

pub returns : goal.returns
returns c =
    slots-then _ _ _ _ _ c.write_seconds.ensures
    c.write_nanoseconds.ensures
