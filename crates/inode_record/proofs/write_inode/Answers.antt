-- `write_inode` meets its contract. Assumes nothing.
use Rattle.inode_record.specs.Record.{slots, inode_store}
use Rattle.inode_record.proofs.SlotLaws.{slots-then}
use Rattle.inode_record.proofs.write_inode.Goals as goal

pub returns : goal.returns
unfolding inode_store slots
returns c =
    slots-then _ _ _ _ _ c.write_owner.ensures
    (slots-then _ _ _ _ _ c.write_size.ensures
    (slots-then _ _ _ _ _ c.write_times.ensures
    (slots-then _ _ _ _ _ c.write_flags.ensures
    (slots-then _ _ _ _ _ c.write_addresses.ensures
    c.write_last.ensures))))
