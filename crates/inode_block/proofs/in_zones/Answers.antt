-- `in_zones` meets its contract. Assumes nothing.
use Rattle.mapping.proofs.ZoneLaws.{start-four}
use Rattle.inode_block.proofs.in_zones.Goals as goal

pub returns : goal.returns
returns c = rw (start-four, ← c.span_of.ensures.0, ← c.span_of-2.ensures.0, ← c.span_of-3.ensures.0)
