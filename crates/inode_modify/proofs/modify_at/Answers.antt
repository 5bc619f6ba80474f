-- `modify_at` meets its contract. Assumes nothing.
use Rattle.inode_modify.proofs.ModifyLaws.{modify-left}
use Rattle.inode_modify.proofs.modify_at.Goals as goal

pub returns : goal.returns
returns c = modify-left _ _ _ _ _ _ _ _ c.read_inode.ensures c.change-new.ensures _ c.write_inode.ensures _ c.as_attr.ensures
