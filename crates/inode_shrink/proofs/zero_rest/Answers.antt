-- `zero_rest` meets its contract: a list that is a run lies in the image. Assumes nothing.
use mathlib.Core.Path.{sym, ◌∙◌}
use native.Mathlib.Omega.{arith}
use Rattle.inode.proofs.SizeLaws.{units}
use Rattle.inode_shrink.proofs.ShrinkLaws.{list_bytes, rest-apply}
use Rattle.inode_shrink.proofs.zero_rest.Goals as goal

pub per_list-per-requires : goal.per_list-per-requires
per_list-per-requires c = (units _ c.requires.0.sizes).block_top

pub address_at-requires : goal.address_at-requires
address_at-requires c = let k = c.requires in omega (arith, list_bytes _ _ k.0 _ k.1)

pub overflow_add-address_at : goal.overflow_add-address_at
overflow_add-address_at c = let k = c.requires in omega (arith, list_bytes _ _ k.0 _ k.1, k.2, c.address_at.ensures)

pub zero_bytes-requires : goal.zero_bytes-requires
zero_bytes-requires c =
    let k = c.requires in
    omega (arith, list_bytes _ _ k.0 _ k.1, k.2, c.address_at.ensures, c.per_list-per.ensures.0)

pub returns : goal.returns
returns c =
    rw (← c.address_at.ensures, ← c.per_list-per.ensures.0) c.zero_bytes.ensures ∙ sym (rest-apply _ _ _ _)
