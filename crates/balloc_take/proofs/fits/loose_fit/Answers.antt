-- `loose_fit` meets its contract: the two tests, joined, of the counts n higher. Assumes nothing.
use Rattle.std.proofs.Common.{rules}
use Rattle.balloc_take.proofs.fits.loose_fit.Goals as goal

pub returns : goal.returns
returns c = rw (c.falls_count.ensures, c.falls_total.ensures, c.counts_more-count.ensures.0, c.totals_more-total.ensures.0)
