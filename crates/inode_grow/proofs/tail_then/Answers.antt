-- `tail_then` meets its contract. Assumes nothing.
use Rattle.inode_grow.proofs.GrowLaws.{then-block, then_tail}
use Rattle.inode_grow.proofs.tail_then.Goals as goal

pub returns-then-e-n : goal.returns-then-e-n
returns-then-e-n c =
    let e = c.size_in-e.ensures.0 in
    let n = c.size_in-n.ensures.0 in
    then-block _ _ _ (rw (← e, ← n) c.if-e-n.true)

pub returns : goal.returns
returns c =
    let e = c.size_in-e.ensures.0 in
    let n = c.size_in-n.ensures.0 in
    rw n (then_tail _ _ _ (rw (← e, ← n) c.if-e-n.false))
