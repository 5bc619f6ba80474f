-- `read_totals` meets its contract. Assumes nothing.
use Rattle.volume.proofs.read_totals.Goals as goal

pub returns : goal.returns
returns c = rw (c.read_total.ensures, c.read_total-2.ensures, c.read_total-3.ensures)
