-- `blocks::area_of` meets its contract. Assumes nothing.
use Rattle.xattr.proofs.AreaLaws.{area-is}
use Rattle.xattr.proofs.blocks.area_of.Goals as goal

pub returns : goal.returns
returns c = area-is _ _ _ _ _ c.read_extsize.ensures c.area_sized.ensures
