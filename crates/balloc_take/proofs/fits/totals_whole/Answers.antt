-- `totals_whole` meets its contract: both sums are taken modulo 2^64, as `down` and `up` are. Assumes nothing.
use Rattle.std.proofs.Common.{sym, refl, ap, ◌∙◌, rules}
use Rattle.balloc_take.proofs.TakeLaws.{down-by}
use Rattle.frame.proofs.WriteLaws.{up-is}
use Rattle.volume.specs.declared.Totals.{Totals}
use Rattle.balloc_take.proofs.fits.totals_whole.Goals as goal

pub returns : goal.returns
returns c = (
  ap (λ (t : Totals). t.nffree) c.totals_after.ensures ∙ down-by 8 18446744073709551615 _ _ refl c.requires,
  ap (λ (t : Totals). t.nbfree) c.totals_after.ensures ∙ sym (up-is 8 _ _),
)
