-- `lengthen` meets its contract. Assumes nothing.
use borrow.Author.Rules.{rules}
use Rattle.dirblock.specs.Record.{absorb}
use Rattle.dirblock_link.proofs.lengthen.Goals as goal

pub returns : goal.returns
unfolding absorb
returns c = cc
