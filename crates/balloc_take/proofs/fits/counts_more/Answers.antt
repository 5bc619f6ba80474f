-- `counts_more` meets its contract: the sum is taken modulo 2^32, as `up` is. Assumes nothing.
use Rattle.std.proofs.Common.{sym, refl, ◌∙◌, rules}
use Rattle.frame.proofs.WriteLaws.{up-is}
use Rattle.balloc_take.proofs.fits.counts_more.Goals as goal

pub returns : goal.returns
returns c = (c.wrapping_add_u32.ensures.value ∙ sym (up-is 4 _ _), refl)
