-- `in_block` meets its contract: what is left of the block has room for the run, `block-room`. Assumes nothing.
use Rattle.std.proofs.Common.{mod-lt, arith, rules}
use Rattle.balloc_take.proofs.TestLaws.{block-room}
use Rattle.balloc_take.proofs.in_block.Goals as goal

pub overflow_sub-result : goal.overflow_sub-result
overflow_sub-result c = omega (arith, mod-lt c.args.a.0 c.requires)

pub returns : goal.returns
returns c = rw c.fragnum.ensures (block-room _ _ _ c.requires)
