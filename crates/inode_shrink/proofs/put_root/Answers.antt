-- `put_root` meets its contract: a list that is a run lies in the image. Assumes nothing.
use native.Mathlib.Omega.{arith}
use Rattle.inode.proofs.SizeLaws.{units}
use Rattle.inode_shrink.proofs.ShrinkLaws.{list_bytes}
use Rattle.inode_shrink.proofs.put_root.Goals as goal

pub per_list-per-requires : goal.per_list-per-requires
per_list-per-requires c = (units _ c.requires.0.sizes).block_top

pub address_at-at-requires : goal.address_at-at-requires
address_at-at-requires c = let k = c.requires in omega (arith, list_bytes _ _ k.0 _ k.1)

pub copy_bytes-requires : goal.copy_bytes-requires
copy_bytes-requires c =
    let k = c.requires in
    let y = list_bytes _ _ k.0 _ k.1 in
    (omega (arith, y, k.3, c.address_at-at.ensures), omega (arith, y, k.2, k.3))

pub overflow_add-at : goal.overflow_add-at
overflow_add-at c = let k = c.requires in omega (arith, list_bytes _ _ k.0 _ k.1, k.3, c.address_at-at.ensures)

pub zero_bytes-requires : goal.zero_bytes-requires
zero_bytes-requires c =
    let k = c.requires in
    omega (arith, list_bytes _ _ k.0 _ k.1, k.3, c.address_at-at.ensures, c.per_list-per.ensures.0, c.copy_bytes.auto)

pub returns : goal.returns
returns c =
    rw (← c.address_at-at.ensures, ← c.per_list-per.ensures.0, ← c.copy_bytes.ensures) c.zero_bytes.ensures
