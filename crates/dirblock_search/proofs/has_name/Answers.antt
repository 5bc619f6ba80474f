-- `has_name` meets its contract. Assumes nothing.
use borrow.Author.Rules.{rules}
use Rattle.dirblock.proofs.SearchLaws.{name-told, name-long}
use Rattle.dirblock_search.proofs.has_name.Goals as goal

pub returns-then-e-name : goal.returns-then-e-name
returns-then-e-name c = name-told _ _ _ _ _ c.if-e-name.true c.same_bytes.ensures.yes c.same_bytes.ensures.no

pub returns : goal.returns
returns c = name-long _ _ _ _ c.requires c.if-e-name.false
