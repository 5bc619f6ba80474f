-- `give` meets its contract. Assumes nothing.
use native.Mathlib.Omega.{arith}
use Rattle.bits.proofs.BitsLaws.{frag-is}
use Rattle.worked.proofs.give.Goals as goal

pub first_free_block-requires : goal.first_free_block-requires
first_free_block-requires g c = (frag-is 8, omega arith, omega arith)

pub setblock-requires : goal.setblock-requires
setblock-requires g c = (frag-is 8, omega arith)
