-- `group_magic` meets its contract. Assumes nothing.
use Rattle.volume.specs.Volume.{group_magic_at}
use Rattle.volume.proofs.group_magic.Goals as goal

pub returns : goal.returns
unfolding group_magic_at
returns c = c.get.ensures
