-- `put_whole` meets its contract: its three stores, each under its own number, are the cut, `whole-stored`. Assumes nothing.
use Rattle.std.proofs.Common.{◌∙◌, rules}
use Rattle.balloc_take.proofs.TakeLaws.{keeps_total, keeps_totals, kept_if, whole-stored}
use Rattle.balloc_take.proofs.TestLaws.{frame-frag}
use Rattle.store.specs.Where.{none, more}
use Rattle.balloc_back.proofs.put_whole.Goals as goal

pub counts_whole-count-requires : goal.counts_whole-count-requires
counts_whole-count-requires c = frame-frag c.requires.0

pub totals_whole-requires : goal.totals_whole-requires
totals_whole-requires c = frame-frag c.requires.0

pub put_totals_if-requires : goal.put_totals_if-requires
put_totals_if-requires c =
    kept_if (more (keeps_total _ _ _) none) _ _ c.requires.0 c.put_total_if.ensures

pub put_counts_if-requires : goal.put_counts_if-requires
put_counts_if-requires c =
    (kept_if (keeps_totals _ _ _) _ _ (kept_if (more (keeps_total _ _ _) none) _ _ c.requires.0 c.put_total_if.ensures) c.put_totals_if.ensures, c.requires.1)

pub returns : goal.returns
returns c =
    let a = c.args in
    let n = c.totals_more-total.ensures in
    let d = c.counts_more.ensures in
    whole-stored a.geo a.g a.n a.c a.t a.k a.img.now n.0 (c.totals_whole.ensures.0 ∙ rw n.0) (c.totals_whole.ensures.1 ∙ rw n.1)
    (c.counts_whole-count.ensures.0 ∙ rw d.0) (c.counts_whole-count.ensures.1 ∙ rw d.1) c.put_total_if.ensures c.put_totals_if.ensures c.put_counts_if.ensures
