-- `store_block` meets its contract: its three stores, each under its own number, are the cut, `block-stored`. Assumes nothing.
use Rattle.std.proofs.Common.{ap, ◌∙◌, rules}
use Rattle.volume.specs.declared.Totals.{Totals}
use Rattle.store.specs.Where.{none, more}
use Rattle.balloc_take.proofs.TakeLaws.{keeps_total, kept_if, map-kept, block-stored, block-length}
use Rattle.balloc_back.proofs.store_block.Goals as goal

pub put_total_if-requires : goal.put_total_if-requires
put_total_if-requires c = map-kept c.requires _ c.put_map_if.ensures

pub put_count_if-requires : goal.put_count_if-requires
put_count_if-requires c =
    let r = c.requires in
    (kept_if (more (keeps_total _ _ _) none) _ _ (map-kept r _ c.put_map_if.ensures) c.put_total_if.ensures, r.group)

pub returns : goal.returns
returns c =
    let a = c.args in (
      block-stored a.geo a.g a.f a.k a.img.now c.counts_at-c.ensures c.read_totals.ensures (ap (λ (t : Totals). t.nbfree) c.totals_after-t.ensures)
          c.wrapping_add_u32.ensures.value c.put_map_if.ensures c.put_total_if.ensures c.put_count_if.ensures,
      c.min.ensures ∙ rw (block-length a.geo a.g a.f a.img.now),
    )
