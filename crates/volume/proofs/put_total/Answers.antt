-- `put_total` meets its contract. Assumes nothing.
use Rattle.volume.specs.Volume.{put_total}
use Rattle.volume.proofs.put_total.Goals as goal

pub returns : goal.returns
unfolding put_total
returns c = rw c.total_place.ensures.0 at c.put.ensures
