-- `read_counts` meets its contract. Assumes nothing.
use Rattle.volume.proofs.read_counts.Goals as goal

pub returns : goal.returns
returns c = rw (c.read_count.ensures, c.read_count-2.ensures, c.read_count-3.ensures)
