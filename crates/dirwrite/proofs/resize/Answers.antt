-- `resize` meets its contract. Assumes nothing.
use borrow.Author.Rules.{rules}
use Rattle.dirwrite.proofs.WriteLaws.{work-told}
use Rattle.dirwrite.proofs.resize.Goals as goal

pub returns : goal.returns
returns c = work-told _ _ _ _ c.truncate_found.ensures c.map_err.ensures.cases (λ e f p. search rules)
