-- `is_taken` meets its contract. Assumes nothing.
use Rattle.dirnames.specs.Names.{taken}
use Rattle.dirnames.proofs.is_taken.Goals as goal

pub returns : goal.returns
unfolding taken
returns c = cc
