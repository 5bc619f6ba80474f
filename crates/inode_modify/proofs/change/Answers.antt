-- `change` meets its contract. Assumes nothing.
use Rattle.inode_modify.proofs.ModifyLaws.{changed-is}
use Rattle.inode_modify.proofs.change.Goals as goal

pub returns : goal.returns
returns c = changed-is _ _ _ c.mode_with.ensures
