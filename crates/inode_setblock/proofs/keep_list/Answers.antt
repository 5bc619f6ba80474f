-- `keep_list` meets its contract. Assumes nothing.
use native.Mathlib.Omega.{arith}
use Rattle.mapping.proofs.MappingLaws.{list_inside}
use Rattle.inode.proofs.SizeLaws.{units}
use Rattle.inode_setblock.proofs.SetLaws.{list-room, kept_list}
use Rattle.inode_setblock.proofs.keep_list.Goals as goal

pub address_at-requires : goal.address_at-requires
address_at-requires c = let h = c.requires in list_inside _ _ h.0 _ h.1

pub copy_bytes-requires : goal.copy_bytes-requires
copy_bytes-requires c = let h = c.requires in (omega (arith, (units _ h.0.sizes).block_top), omega (arith, (list-room _ _ h.0 _ h.1).0, c.address_at.ensures))

pub returns : goal.returns
returns c = let h = c.requires in kept_list _ _ _ _ _ c.address_at.ensures (omega (arith, (list-room _ _ h.0 _ h.1).0, c.address_at.ensures)) (omega (arith, (units _ h.0.sizes).block_top)) c.copy_bytes.ensures
