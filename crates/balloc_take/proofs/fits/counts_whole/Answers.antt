-- `counts_whole` meets its contract: both sums are taken modulo 2^32, as `down` and `up` are. Assumes nothing.
use Rattle.std.proofs.Common.{sym, refl, ◌∙◌, rules}
use Rattle.balloc_take.proofs.TakeLaws.{down-by}
use Rattle.frame.proofs.WriteLaws.{up-is}
use Rattle.balloc_take.proofs.fits.counts_whole.Goals as goal

pub returns : goal.returns
returns c = (c.wrapping_add_u32-2.ensures.value ∙ down-by 4 4294967295 _ _ refl c.requires, c.wrapping_add_u32.ensures.value ∙ sym (up-is 4 _ _))
