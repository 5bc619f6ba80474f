-- `new_inode` meets its contract: a kind's number is below 16. Assumes nothing.
use Rattle.std.proofs.Common.{arith, rules}
use Rattle.ialloc_give.specs.Give.{new_inode}
use Rattle.ialloc_give.proofs.GiveLaws.{kind-small}
use Rattle.ialloc_give.proofs.new_inode.Goals as goal

pub overflow_mul-result : goal.overflow_mul-result
overflow_mul-result c = omega (arith, c.type_number.ensures, kind-small c.args.kind)

pub overflow_add-result : goal.overflow_add-result
overflow_add-result c = omega (arith, c.type_number.ensures, kind-small c.args.kind)

pub returns : goal.returns
unfolding new_inode
returns c = rw (← c.type_number.ensures)
