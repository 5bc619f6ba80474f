-- `read_group` meets its contract. Assumes nothing.
use Rattle.volume.specs.Volume.{group_of}
use Rattle.volume.proofs.read_group.Goals as goal

pub returns : goal.returns
unfolding group_of
returns c = rw (c.get.ensures, c.get-2.ensures, c.get-3.ensures)
