-- `get_block_size` meets its contract. Assumes nothing.
use borrow.Author.Rules.{rules}
use mathlib.Core.Path.{sym}
use native.Mathlib.Omega.{arith}
use Rattle.inode.proofs.SizeLaws.{held-block, held-tail, held-past}
use Rattle.inode.proofs.get_block_size.Goals as goal

pub returns-then-n-e : goal.returns-then-n-e
returns-then-n-e c =
    sym (held-block _ _ _ (rw (← c.size_in-e.ensures.0) c.if-n-e.true))

pub overflow_mul-result : goal.overflow_mul-result
overflow_mul-result c = omega (arith, c.size_in-e.ensures.1)

pub returns-then-n-e-2 : goal.returns-then-n-e-2
returns-then-n-e-2 c =
    let i = c.if-n-e.false in
    rw c.size_in-e.ensures.0 (sym (held-tail _ _ _ (rw (← c.size_in-e.ensures.0) (omega arith)) (rw (← c.size_in-e.ensures.0) (omega (arith, i, c.if-n-e-2.true)))))

pub returns : goal.returns
returns c =
    let i = c.if-n-e.false in
    sym (held-past _ _ _ (rw (← c.size_in-e.ensures.0) (omega arith)) (rw (← c.size_in-e.ensures.0) (omega (arith, i, c.if-n-e-2.false))))
