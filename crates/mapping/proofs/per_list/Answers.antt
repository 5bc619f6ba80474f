-- `per_list` meets its contract. Assumes nothing.
use mathlib.Core.Path.{refl}
use native.Mathlib.Omega.{arith}
use Rattle.mapping.specs.Mapping.{per_list}
use Rattle.mapping.proofs.per_list.Goals as goal

pub returns : goal.returns
unfolding per_list
returns c = (refl, omega arith)
