-- `read_count` meets its contract. Assumes nothing.
use Rattle.volume.specs.Volume.{count_at}
use Rattle.volume.proofs.read_count.Goals as goal

pub returns : goal.returns
unfolding count_at
returns c = rw (c.get.ensures, c.count_place.ensures.0)
