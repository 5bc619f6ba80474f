-- `attr_list` meets its contract: the bounds of the last fields are handed over, since a search does not come that far. Assumes nothing.
use borrow.Author.Rules.{rules}
use Rattle.boundary_inode.proofs.attr_list.Goals as goal

pub overflow_cast-result-10 : goal.overflow_cast-result-10
overflow_cast-result-10 c = search (rules, c.struct_known-9-1.given.1.1.1.1.1.1.1.1.0)

pub overflow_cast-result-11 : goal.overflow_cast-result-11
overflow_cast-result-11 c = search (rules, c.struct_known-10-1.given.1.1.1.1.1.1.1.1.1.0)

pub overflow_cast-result-12 : goal.overflow_cast-result-12
overflow_cast-result-12 c = search (rules, c.struct_known-11-1.given.1.1.1.1.1.1.1.1.1.1.0)

pub overflow_cast-result-13 : goal.overflow_cast-result-13
overflow_cast-result-13 c = search (rules, c.struct_known-12-1.given.1.1.1.1.1.1.1.1.1.1.1.0)

pub overflow_cast-result-14 : goal.overflow_cast-result-14
overflow_cast-result-14 c = search (rules, c.struct_known-13-1.given.1.1.1.1.1.1.1.1.1.1.1.1.0)

pub overflow_cast-result-15 : goal.overflow_cast-result-15
overflow_cast-result-15 c = search (rules, c.struct_known-14-1.given.1.1.1.1.1.1.1.1.1.1.1.1.1.0)

pub returns : goal.returns
returns c = rw c.type_number.ensures
