-- `frag_at` meets its contract. Assumes nothing.
use native.Mathlib.Omega.{arith}
use Rattle.volume.specs.Volume.{byte_at}
use Rattle.volume.proofs.frag_at.Goals as goal

pub overflow_mul-result : goal.overflow_mul-result
unfolding byte_at
overflow_mul-result c = rw c.product.ensures.0 (omega (arith, c.requires))

pub returns : goal.returns
unfolding byte_at
returns c = cc
