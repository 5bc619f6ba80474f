-- `isfreefrag` meets its contract. Assumes nothing.
use Rattle.bits.proofs.BitsLaws.{frag-free}
use Rattle.bits.proofs.isfreefrag.Goals as goal

pub returns : goal.returns
returns c = frag-free _ _ _
