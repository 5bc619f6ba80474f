-- `shrink_mid` meets its contract. Assumes nothing.
use native.Mathlib.Omega.{arith}
use Rattle.inode.proofs.SizeLaws.{units}
use Rattle.mapping.proofs.MappingLaws.{per-most}
use Rattle.inode_truncate.proofs.ZoneLaws.{mid-part, second_starts, second_early, third_starts}
use Rattle.inode_truncate.proofs.shrink_mid.Goals as goal

pub span_of-second-requires : goal.span_of-second-requires
span_of-second-requires c = ((units _ c.requires.0.sizes).block_top, omega arith)

pub shrink_below-requires : goal.shrink_below-requires
shrink_below-requires c =
    let k = c.requires in
    (k.0, k.1, rw (← second_starts _ _ c.span_of-second.ensures.0) c.if-keep-second.true)

pub shrink_lists-requires : goal.shrink_lists-requires
shrink_lists-requires c =
    let k = c.requires in
    let s = c.span_of-second.ensures in
    (k.0, second_early _ _ s.0 (per-most _ _ k.0), third_starts _ _ _ s.0 k.2 c.if-keep-second.false)

pub returns : goal.returns
returns c = mid-part _ _ _ _ _ _ _ (second_starts _ _ c.span_of-second.ensures.0) c.if-keep-second.false _ c.read_address-a.ensures c.shrink_lists.ensures
