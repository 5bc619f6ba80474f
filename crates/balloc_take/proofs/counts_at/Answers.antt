-- `counts_at` meets its contract: the counts of the record at the group's place. Assumes nothing.
use Rattle.std.proofs.Common.{rules}
use Rattle.balloc_take.proofs.counts_at.Goals as goal

pub returns : goal.returns
returns c = rw (c.read_counts.ensures, c.cg_addr.ensures.0)
