-- `hitchsnow_open` meets its contract: the word of what opening answers. Assumes nothing.
use borrow.Author.Rules.{rules}
use mathlib.Core.Path.{sym, ap, ◌∙◌}
use Rattle.boundary.specs.Words.{opened_word}
use Rattle.boundary.proofs.hitchsnow_open.Goals as goal

pub returns-in-Ok : goal.returns-in-Ok
returns-in-Ok c = ap opened_word (sym c.in-Ok.is ∙ c.open-o.ensures)

pub returns-in-Err : goal.returns-in-Err
returns-in-Err c = c.number.ensures ∙ ap opened_word (sym c.in-Err.is ∙ c.open-o.ensures)
