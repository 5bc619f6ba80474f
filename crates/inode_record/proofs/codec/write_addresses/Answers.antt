-- `codec::write_addresses` meets its contract. Assumes nothing.
use Rattle.inode_record.proofs.SlotLaws.{slots-then}
use Rattle.inode_record.proofs.codec.write_addresses.Goals as goal

pub returns : goal.returns
returns c =
    slots-then _ _ _ _ _ c.write_extb.ensures
    (slots-then _ _ _ _ _ c.write_direct.ensures
    c.write_indirect.ensures)
