-- `put_list` meets its contract. Assumes nothing.
use native.Mathlib.Omega.{arith}
use mathlib.Core.Path.{ap, ◌∙◌}
use lib.ListN.{length}
use Rattle.field.proofs.Laws.{length-put}
use Rattle.mapping.proofs.MappingLaws.{entry-inside, list_inside}
use Rattle.inode.proofs.SizeLaws.{units}
use Rattle.inode_setblock.proofs.SetLaws.{list-room, list-made}
use Rattle.inode_setblock.proofs.put_list.Goals as goal

pub address_at-at-requires : goal.address_at-at-requires
address_at-at-requires c = let h = c.requires in list_inside _ _ h.0 _ h.1

pub copy_bytes-requires : goal.copy_bytes-requires
copy_bytes-requires c =
    let h = c.requires in
    (omega (arith, (list-room _ _ h.0 _ h.1).0, c.address_at-at.ensures), omega (arith, (units _ h.0.sizes).block_top))

pub overflow_mul-slot : goal.overflow_mul-slot
overflow_mul-slot c = let h = c.requires in omega (arith, entry-inside _ _ h.0 _ _ h.1 h.2, h.0.laid.high)

pub overflow_add-at : goal.overflow_add-at
overflow_add-at c = let h = c.requires in omega (arith, entry-inside _ _ h.0 _ _ h.1 h.2, h.0.laid.high, c.address_at-at.ensures)

pub put-requires : goal.put-requires
put-requires c = let h = c.requires in omega (arith, entry-inside _ _ h.0 _ _ h.1 h.2, c.address_at-at.ensures, ap length c.copy_bytes.ensures ∙ length-put _ _ _)

pub returns : goal.returns
returns c = list-made _ _ _ _ _ _ c.address_at-at.ensures _ c.copy_bytes.ensures c.put.ensures
