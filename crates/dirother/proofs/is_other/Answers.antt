-- `is_other` meets its contract. Assumes nothing.
use borrow.Author.Rules.{rules}
use Rattle.dirother.specs.Other.{stays}
use Rattle.dirother.proofs.is_other.Goals as goal

pub returns : goal.returns
unfolding stays
returns c = cc
