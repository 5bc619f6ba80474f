-- `cg_addr` meets its contract. Assumes nothing.
use borrow.Author.Rules.{rules}
use native.Mathlib.Omega.{arith}
use Rattle.frame.proofs.Places.{spots}
use Rattle.frame.proofs.cg_addr.Goals as goal

pub frag_at-requires : goal.frag_at-requires
frag_at-requires c = let s = spots _ _ c.requires.0 _ c.requires.1 in omega arith

pub returns : goal.returns
returns c = (c.frag_at.ensures, spots _ _ c.requires.0 _ c.requires.1)
