-- `store_frags` meets its contract: a cut of the map stores, and what is left of the number for the counts, `frags-stored`. Assumes nothing.
use Rattle.std.proofs.Common.{rules}
use Rattle.balloc_take.proofs.TakeLaws.{maps-kept, frags-stored, frags-made}
use Rattle.balloc_back.proofs.store_frags.Goals as goal

pub store_counts-tail-requires : goal.store_counts-tail-requires
store_counts-tail-requires c =
    (maps-kept c.requires _ c.store_maps.ensures, c.requires.group)

pub returns : goal.returns
returns c =
    let a = c.args in
    let s = c.counts_at-c.ensures in
    let t = c.read_totals-t.ensures in
    let w = c.whole_then-whole.ensures in (
      frags-stored a.geo a.g a.f a.n a.k a.img.now s t w c.saturating_sub.ensures c.store_maps.ensures c.store_counts-tail.ensures.0,
      frags-made a.geo a.g a.f a.n a.k a.img.now s t w c.store_counts-tail.ensures.1 c.min.ensures,
    )
