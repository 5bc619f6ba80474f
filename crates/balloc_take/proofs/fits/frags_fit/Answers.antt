-- `frags_fit` meets its contract: the two tests, joined. Assumes nothing.
use Rattle.std.proofs.Common.{rules}
use Rattle.balloc_take.proofs.fits.frags_fit.Goals as goal

pub returns : goal.returns
returns c = rw (c.rises_count.ensures, c.rises_total.ensures)
