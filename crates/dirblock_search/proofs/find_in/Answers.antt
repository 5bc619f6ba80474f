-- `find_in` meets its contract. Assumes nothing.
use borrow.Author.Rules.{rules}
use Rattle.dirblock.specs.Search.{named, find_in}
use Rattle.dirblock.proofs.WalkLaws.{name-inside}
use Rattle.dirblock_search.proofs.find_in.Goals as goal

pub search_from-requires : goal.search_from-requires
search_from-requires c = λ pos e h. let q = name-inside _ _ _ _ h in search rules

pub returns : goal.returns
unfolding find_in
returns c = let s = c.args in c.search_from.ensures (named s.block.now s.name.now s.whiteouts) (λ pos e r h q. search rules)
