-- `is_short` meets its contract. Assumes nothing.
use mathlib.Core.Path.{refl}
use Rattle.dirnames.specs.Names.{short}
use Rattle.dirnames.proofs.is_short.Goals as goal

pub returns : goal.returns
unfolding short
returns c = refl
