-- `count_within` meets its contract. Assumes nothing.
use borrow.Author.Rules.{rules}
use Rattle.sound.specs.Clauses.{within}
use Rattle.sound.proofs.count_within.Goals as goal

pub returns : goal.returns
unfolding within
returns c = search rules
