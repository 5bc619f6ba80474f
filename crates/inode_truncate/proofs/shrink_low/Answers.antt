-- `shrink_low` meets its contract. Assumes nothing.
use native.Mathlib.Omega.{arith}
use Rattle.inode_truncate.proofs.ZoneLaws.{low_part, first-room}
use Rattle.inode_truncate.proofs.shrink_low.Goals as goal

pub shrink_list-requires : goal.shrink_list-requires
shrink_list-requires c =
    let k = c.requires in
    (k.0, omega arith, first-room _ _ k.2)

pub returns : goal.returns
returns c = low_part _ _ _ _ _ _ c.if-keep-lt12.false _ c.read_address-a.ensures c.shrink_list.ensures
