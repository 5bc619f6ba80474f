-- `group_count` meets its contract. Assumes nothing.
use borrow.Author.Rules.{rules}
use Rattle.frame.proofs.group_count.Goals as goal

pub returns : goal.returns
returns c = rw (c.read_count.ensures, c.cg_addr.ensures.0)
