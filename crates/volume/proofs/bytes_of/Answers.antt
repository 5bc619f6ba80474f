-- `bytes_of` meets its contract. Assumes nothing.
use native.Mathlib.Omega.{arith}
use mathlib.Core.Path.{refl}
use Rattle.volume.proofs.Laws.{bytes_fit}
use Rattle.volume.proofs.bytes_of.Goals as goal

pub overflow_mul-result : goal.overflow_mul-result
overflow_mul-result c = omega (arith, bytes_fit c.ranges.n.fits c.requires)

pub returns : goal.returns
returns c = (refl, bytes_fit c.ranges.n.fits c.requires)
