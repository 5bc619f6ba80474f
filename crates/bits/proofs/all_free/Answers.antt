-- `all_free` meets its contract: the shifted byte's rest is compared with a run of ones. Assumes nothing.
use Rattle.bits.proofs.all_free.Goals as goal

pub returns : goal.returns
returns c = rw (c.two_to-run.ensures.0, c.wide.ensures)
