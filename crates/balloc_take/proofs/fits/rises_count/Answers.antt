-- `rises_count` meets its contract: the halves of the 32-bit numbers, `rises-high` and `rises-low`. Assumes nothing.
use Rattle.std.proofs.Common.{sym, refl, arith, rules}
use Rattle.balloc_take.proofs.TestLaws.{rises-high, rises-low}
use Rattle.balloc_take.proofs.fits.rises_count.Goals as goal

pub returns-then-x-ge2147483648 : goal.returns-then-x-ge2147483648
returns-then-x-ge2147483648 c = sym (rises-high 4 2147483648 _ _ refl (omega arith))

pub returns-else-x-ge2147483648 : goal.returns-else-x-ge2147483648
returns-else-x-ge2147483648 c = rises-low 4 2147483648 _ _ refl (omega arith)
