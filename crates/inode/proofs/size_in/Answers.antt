-- `size_in` meets its contract. Assumes nothing.
use borrow.Author.Rules.{rules}
use native.Mathlib.Omega.{arith}
use Rattle.inode.proofs.SizeLaws.{units, tail-fits}
use Rattle.inode.proofs.size_in.Goals as goal

pub inode_size-requires : goal.inode_size-requires
inode_size-requires c = let u = units _ c.requires in (omega (arith, u.block), omega (arith, u.unit), u.block_top, u.unit_top)

pub returns : goal.returns
returns c =
    (c.inode_size.ensures, rw c.inode_size.ensures (tail-fits _ _ c.requires), (units _ c.requires).block_top)
