-- `per_byte` meets its contract: 8 is a multiple of frag. Assumes nothing.
use Rattle.bits.proofs.BitsLaws.{frag-some}
use Rattle.bits.proofs.CountLaws.{frag_per}
use Rattle.bits.proofs.per_byte.Goals as goal

pub nonzero_div-result : goal.nonzero_div-result
nonzero_div-result c = frag-some _ c.requires

pub returns : goal.returns
returns c = frag_per _ c.requires
