-- `put_part` meets its contract: its two stores, each under its own number, are the cut, `part-stored`. Assumes nothing.
use Rattle.std.proofs.Common.{rules}
use Rattle.balloc_take.proofs.TakeLaws.{keeps_total, kept_if, part-stored}
use Rattle.store.specs.Where.{none, more}
use Rattle.balloc_back.proofs.put_part.Goals as goal

pub put_counts_if-requires : goal.put_counts_if-requires
put_counts_if-requires c =
    (kept_if (more (keeps_total _ _ _) none) _ _ c.requires.0 c.put_total_if.ensures, c.requires.1)

pub returns : goal.returns
returns c =
    let a = c.args in
    part-stored a.geo a.g a.n a.c a.t a.k a.img.now c.totals_more-total.ensures.0 c.counts_more.ensures c.put_total_if.ensures c.put_counts_if.ensures
