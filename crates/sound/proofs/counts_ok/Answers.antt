-- `counts_ok` meets its contract. Assumes nothing.
use Rattle.sound.specs.Clauses.{counts_ok}
use Rattle.sound.proofs.counts_ok.Goals as goal

pub returns : goal.returns
unfolding counts_ok
returns c = rw (c.count_within.ensures, c.read_count.ensures, c.count_within-2.ensures, c.read_count-2.ensures, c.count_within-3.ensures, c.read_count-3.ensures)
