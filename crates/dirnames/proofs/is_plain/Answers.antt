-- `is_plain` meets its contract. Assumes nothing.
use mathlib.Core.Path.{refl}
use Rattle.dirnames.specs.Names.{plain}
use Rattle.dirnames.proofs.is_plain.Goals as goal

pub returns : goal.returns
unfolding plain
returns c = refl
