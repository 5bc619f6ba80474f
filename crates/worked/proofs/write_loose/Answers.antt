-- `write_loose` meets its contract. Assumes nothing.
use native.Mathlib.Omega.{arith}
use Rattle.bits.proofs.BitsLaws.{frag-is}
use Rattle.worked.proofs.write_loose.Goals as goal

pub count_map-count-requires : goal.count_map-count-requires
count_map-count-requires g c = (frag-is 8, omega arith, omega arith)
