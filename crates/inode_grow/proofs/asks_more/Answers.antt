-- `asks_more` meets its contract. Assumes nothing.
use Rattle.inode_grow.proofs.asks_more.Goals as goal

pub returns : goal.returns
returns c = rw (c.tail_short.ensures, c.is_in_place.ensures, c.is_sized.ensures)
