-- `inode_spot` meets its contract. Assumes nothing.
use borrow.Author.Rules.{rules}
use mathlib.Core.Path.{refl}
use native.Mathlib.Omega.{arith}
use Rattle.frame.proofs.Places.{inode-is}
use Rattle.frame.proofs.inode_spot.Goals as goal

pub ino_to_fso-requires : goal.ino_to_fso-requires
ino_to_fso-requires c = let i = inode-is _ _ c.requires.0 _ _ c.requires.1 refl in omega (arith, c.requires.0.laid.inodes)

pub returns : goal.returns
returns c = inode-is _ _ c.requires.0 _ _ c.requires.1 c.ino_to_fso.ensures
