-- `header_ok` meets its contract. Assumes nothing.
use Rattle.sound.specs.Clauses.{header_ok}
use Rattle.sound.proofs.header_ok.Goals as goal

pub overflow_sub-geo : goal.overflow_sub-geo
overflow_sub-geo c = c.requires.1

pub bytes_of-requires : goal.bytes_of-requires
bytes_of-requires c = c.requires.0

pub returns : goal.returns
unfolding header_ok
returns c = rw (c.product.ensures.0, c.bytes_of.ensures.0)
