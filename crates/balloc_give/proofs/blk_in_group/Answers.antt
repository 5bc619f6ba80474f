-- `blk_in_group` meets its contract: the group is searched if it counts a block. Assumes nothing.
use Rattle.std.proofs.Common.{◌≡◌, true, false, sym, ap, ◌∙◌, arith, rules}
use Rattle.bits.proofs.BitsLaws.{frag-some}
use Rattle.balloc_give.specs.Give.{positive}
use Rattle.balloc_give.proofs.GiveLaws.{frag-ok, map-in-image, found-in-group, passed}
use Rattle.balloc_give.proofs.blk_in_group.Goals as goal

pub nonzero_div-nb : goal.nonzero_div-nb
nonzero_div-nb c = frag-some _ (frag-ok _ _ c.requires.0)

pub overflow_cast-nb : goal.overflow_cast-nb
overflow_cast-nb c =
    let r = c.group_at-r.ensures in
    let m = map-in-image _ _ c.requires.0 _ c.requires.1 _ _ _ c.cg_addr.ensures.0 r.freeoff r.ndblk in
    omega arith

pub first_free_block-requires : goal.first_free_block-requires
first_free_block-requires c =
    let r = c.group_at-r.ensures in
    map-in-image _ _ c.requires.0 _ c.requires.1 _ _ _ c.cg_addr.ensures.0 r.freeoff r.ndblk

pub returns-then-n : goal.returns-then-n
unfolding positive
returns-then-n c =
    let r = c.group_at-r.ensures in
    c.first_free_block.ensures
    ∙ found-in-group _ _ c.requires.0 _ c.requires.1 _ _ _ c.cg_addr.ensures.0 r.freeoff r.ndblk
    (rw (← c.group_count-n.ensures) c.if-n.true)

pub returns : goal.returns
unfolding positive
returns c = sym (passed _ _ _ (rw (← c.group_count-n.ensures) c.if-n.false))
