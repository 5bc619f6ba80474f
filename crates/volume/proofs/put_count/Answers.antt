-- `put_count` meets its contract. Assumes nothing.
use Rattle.volume.specs.Volume.{put_count}
use Rattle.volume.proofs.put_count.Goals as goal

pub returns : goal.returns
unfolding put_count
returns c = rw c.count_place.ensures.0 at c.put.ensures
