-- `other_in` meets its contract. Assumes nothing.
use borrow.Author.Rules.{rules}
use Rattle.dirblock.proofs.WalkLaws.{name-inside}
use Rattle.dirother.specs.Other.{stays, other_in}
use Rattle.dirother.proofs.other_in.Goals as goal

pub search_from-requires : goal.search_from-requires
search_from-requires c = λ pos e h. let q = name-inside _ _ _ _ h in search rules

pub returns : goal.returns
unfolding other_in
returns c = c.search_from.ensures (stays c.args.block.now) (λ pos e r h q. search rules)
