-- `give_values` meets its contract: the byte with the block's bits cleared, and the two counts one fewer. Assumes nothing.
use Rattle.std.proofs.Common.{refl, ap, arith, rules}
use Rattle.volume.specs.declared.Totals.{Totals}
use Rattle.balloc_give.proofs.GiveLaws.{frag-ok, block-byte, values_are}
use Rattle.balloc_give.proofs.give_values.Goals as goal

pub overflow_add-result : goal.overflow_add-result
overflow_add-result c =
    let b = block-byte _ _ c.requires.0 _ _ c.requires.1 c.requires.2 in
    omega arith

pub block_byte-requires : goal.block_byte-requires
block_byte-requires c =
    let b = block-byte _ _ c.requires.0 _ _ c.requires.1 c.requires.2 in
    (frag-ok _ _ c.requires.0, omega arith)

pub returns : goal.returns
returns c =
    let r = c.group_at-r.ensures in
    values_are _ _ c.requires.0 _ _ c.requires.1 c.requires.2 _ _ _ _ _ _
    c.cg_addr.ensures.0 r.freeoff refl c.map_byte.ensures
    c.group_count.ensures (ap (λ (t : Totals). t.nbfree) c.read_totals.ensures)
    _ refl c.block_byte.ensures (omega arith) c.wrapping_add_u32.ensures.value
    (ap (λ (t : Totals). t.nbfree) c.totals_after-t.ensures)
