-- `listed_from` meets its contract. Assumes nothing.
use borrow.Author.Rules.{rules}
use Rattle.dirnext.specs.Next.{is_listed, listed_from}
use Rattle.dirnext.proofs.listed_from.Goals as goal

pub returns : goal.returns
unfolding listed_from
returns c = c.in-Ok.ensures is_listed (λ pos e r h q. search rules)

pub returns-in_default : goal.returns-in_default
unfolding listed_from
returns-in_default c = c.in_default.ensures is_listed (λ pos e r h q. search rules)
