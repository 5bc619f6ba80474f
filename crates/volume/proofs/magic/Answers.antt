-- `magic` meets its contract. Assumes nothing.
use Rattle.volume.specs.Volume.{magic_at}
use Rattle.volume.proofs.magic.Goals as goal

pub returns : goal.returns
unfolding magic_at
returns c = c.get.ensures
