-- `wanted_attr` meets its contract: the times are those of the call before it. Assumes nothing.
use borrow.Author.Rules.{rules}
use Rattle.boundary_file.proofs.wanted_attr.Goals as goal

pub returns : goal.returns
returns c = rw c.times_of.ensures
