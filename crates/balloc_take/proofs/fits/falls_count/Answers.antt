-- `falls_count` meets its contract: the halves of the 32-bit numbers, `falls-low` and `falls-high`. Assumes nothing.
use Rattle.std.proofs.Common.{sym, refl, arith}
use Rattle.balloc_take.proofs.TestLaws.{falls-low, falls-high}
use Rattle.balloc_take.proofs.fits.falls_count.Goals as goal

pub returns-then-x-lt2147483648 : goal.returns-then-x-lt2147483648
returns-then-x-lt2147483648 c = sym (falls-low 4 2147483648 _ _ refl (omega arith))

pub returns-else-x-lt2147483648 : goal.returns-else-x-lt2147483648
returns-else-x-lt2147483648 c = falls-high 4 2147483648 _ _ refl (omega arith) (omega arith)
