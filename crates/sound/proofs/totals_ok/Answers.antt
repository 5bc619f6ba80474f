-- `totals_ok` meets its contract. Assumes nothing.
use Rattle.sound.specs.Clauses.{totals_ok}
use Rattle.sound.proofs.totals_ok.Goals as goal

pub returns : goal.returns
unfolding totals_ok
returns c = rw (c.total_within.ensures, c.read_total.ensures, c.total_within-2.ensures, c.read_total-2.ensures, c.total_within-3.ensures, c.read_total-3.ensures)
