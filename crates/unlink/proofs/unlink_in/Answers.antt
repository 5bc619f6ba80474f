-- `unlink_in` meets its contract. Assumes nothing.
use borrow.Author.Rules.{rules}
use mathlib.Core.Path.{sym, ◌∙◌}
use Rattle.unlink.proofs.UnlinkLaws.{unlink-free, unlink-refused}
use Rattle.unlink.proofs.unlink_in.Goals as goal

pub returns-in-Ok : goal.returns-in-Ok
returns-in-Ok c = c.take_name.ensures ∙ unlink-free _ _ _ _ (sym c.in-Ok.ensures)

pub returns-in-Err : goal.returns-in-Err
returns-in-Err c = unlink-refused _ _ _ _ (sym c.in-Err.ensures)
