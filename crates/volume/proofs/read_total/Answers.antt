-- `read_total` meets its contract. Assumes nothing.
use Rattle.volume.specs.Volume.{total_at}
use Rattle.volume.proofs.read_total.Goals as goal

pub returns : goal.returns
unfolding total_at
returns c = rw (c.get.ensures, c.total_place.ensures.0)
