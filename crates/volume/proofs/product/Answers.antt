-- `product` meets its contract. Assumes nothing.
use native.Mathlib.Omega.{arith}
use mathlib.Core.Path.{refl}
use Rattle.volume.proofs.Laws.{product_fits}
use Rattle.volume.proofs.product.Goals as goal

pub overflow_mul-result : goal.overflow_mul-result
overflow_mul-result c = omega (arith, product_fits c.ranges.a.fits c.ranges.b.fits)

pub returns : goal.returns
returns c = (refl, product_fits c.ranges.a.fits c.ranges.b.fits)
