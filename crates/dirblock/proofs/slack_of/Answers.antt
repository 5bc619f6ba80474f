-- `slack_of` meets its contract. Assumes nothing.
use borrow.Author.Rules.{rules}
use Rattle.dirblock.specs.Record.{slack}
use native.Mathlib.Omega.{arith}
use Rattle.dirblock.proofs.slack_of.Goals as goal

pub returns : goal.returns
unfolding slack
returns c = omega arith
