-- `Inode::inode_size` meets its contract. Assumes nothing.
use borrow.Author.Rules.{rules}
use native.Mathlib.Omega.{arith}
use native.Mathlib.Nat.{mod-lt}
use Rattle.inode.specs.Size.{size_in}
use Rattle.inode.proofs.Inode.inode_size.Goals as goal

pub overflow_add-result : goal.overflow_add-result
overflow_add-result c = omega (arith, mod-lt c.args.size c.requires.0)

pub returns : goal.returns
unfolding size_in
returns c = search rules
