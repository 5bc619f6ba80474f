-- `codec::write_last` meets its contract. Assumes nothing.
use Rattle.inode_record.proofs.SlotLaws.{slot-then, slots_end}
use Rattle.inode_record.proofs.codec.write_last.Goals as goal

pub returns : goal.returns
returns c =
    slot-then _ _ _ _ _ c.put.ensures
    (slot-then _ _ _ _ _ c.put-2.ensures
    (slot-then _ _ _ _ _ c.put-3.ensures
    (slot-then _ _ _ _ _ c.put-4.ensures
    (slot-then _ _ _ _ _ c.put-5.ensures (slots_end _ _ _)))))
