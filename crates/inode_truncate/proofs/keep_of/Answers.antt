-- `keep_of` meets its contract. Assumes nothing.
use mathlib.Core.Path.{sym}
use native.Mathlib.Omega.{arith}
use Rattle.inode_truncate.proofs.KeepLaws.{keep-tail, keep-whole, blocks-few}
use Rattle.inode_truncate.proofs.keep_of.Goals as goal

pub overflow_add-result : goal.overflow_add-result
overflow_add-result c = rw c.size_in-e.ensures.0 (omega (arith, blocks-few _ c.args.size c.requires (omega arith)))

pub returns-then-e-gt0 : goal.returns-then-e-gt0
returns-then-e-gt0 c = rw c.size_in-e.ensures.0 (sym (keep-tail _ _ (rw (← c.size_in-e.ensures.0) c.if-e-gt0.true)))

pub returns-else-e-gt0 : goal.returns-else-e-gt0
returns-else-e-gt0 c = rw c.size_in-e.ensures.0 (sym (keep-whole _ _ (rw (← c.size_in-e.ensures.0) c.if-e-gt0.false)))
