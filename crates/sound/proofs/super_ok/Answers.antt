-- `super_ok` meets its contract. Assumes nothing.
use Rattle.sound.specs.Clauses.{super_ok}
use Rattle.sound.proofs.super_ok.Goals as goal

pub returns : goal.returns
unfolding super_ok
returns c = rw (c.magic.ensures, c.totals_ok.ensures)
