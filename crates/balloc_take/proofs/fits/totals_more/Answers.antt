-- `totals_more` meets its contract: the sum is taken modulo 2^64, as `up` is. Assumes nothing.
use Rattle.std.proofs.Common.{sym, ap, ◌∙◌, arith, rules}
use Rattle.frame.proofs.WriteLaws.{up-is}
use Rattle.volume.specs.declared.Totals.{Totals}
use Rattle.balloc_take.proofs.fits.totals_more.Goals as goal

pub returns : goal.returns
returns c =
    (ap (λ (t : Totals). t.nffree) c.totals_after.ensures ∙ sym (up-is 8 _ _), ap (λ (t : Totals). t.nbfree) c.totals_after.ensures ∙ omega arith)
