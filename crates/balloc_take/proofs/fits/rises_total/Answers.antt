-- `rises_total` meets its contract: the halves of the 64-bit numbers, `rises-high` and `rises-low`. Assumes nothing.
use Rattle.std.proofs.Common.{sym, refl, arith, rules}
use Rattle.balloc_take.proofs.TestLaws.{rises-high, rises-low}
use Rattle.balloc_take.proofs.fits.rises_total.Goals as goal

pub returns-then-x-ge9223372036854775808 : goal.returns-then-x-ge9223372036854775808
returns-then-x-ge9223372036854775808 c = sym (rises-high 8 9223372036854775808 _ _ refl (omega arith))

pub returns-else-x-ge9223372036854775808 : goal.returns-else-x-ge9223372036854775808
returns-else-x-ge9223372036854775808 c = rises-low 8 9223372036854775808 _ _ refl (omega arith)
