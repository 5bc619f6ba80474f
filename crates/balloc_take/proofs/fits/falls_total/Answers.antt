-- `falls_total` meets its contract: the halves of the 64-bit numbers, `falls-low` and `falls-high`. Assumes nothing.
use Rattle.std.proofs.Common.{sym, refl, arith}
use Rattle.balloc_take.proofs.TestLaws.{falls-low, falls-high}
use Rattle.balloc_take.proofs.fits.falls_total.Goals as goal

pub returns-then-x-lt9223372036854775808 : goal.returns-then-x-lt9223372036854775808
returns-then-x-lt9223372036854775808 c = sym (falls-low 8 9223372036854775808 _ _ refl (omega arith))

pub returns-else-x-lt9223372036854775808 : goal.returns-else-x-lt9223372036854775808
returns-else-x-lt9223372036854775808 c = falls-high 8 9223372036854775808 _ _ refl (omega arith) (omega arith)
