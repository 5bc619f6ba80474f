-- `number_ok` meets its contract. Assumes nothing.
use Rattle.inode_run.specs.Find.{number_ok}
use Rattle.inode_run.proofs.number_ok.Goals as goal

pub returns : goal.returns
unfolding number_ok
returns c = rw (← c.product.ensures.0)
