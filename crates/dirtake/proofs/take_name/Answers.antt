-- `take_name` meets its contract. Assumes nothing.
use borrow.Author.Rules.{rules}
use mathlib.Core.Path.{refl, ◌∙◌}
use Rattle.books.proofs.KeepLaws.{kept-left}
use Rattle.dirlink.proofs.LinkKeeps.{keeps-unlink-name}
use Rattle.dirtake.proofs.TakeLaws.{take-gone, take-stop}
use Rattle.dirtake.proofs.take_name.Goals as goal

pub free_found-requires : goal.free_found-requires
free_found-requires c = (kept-left _ (keeps-unlink-name _ _ _) c.requires c.in-Ok.ensures).frame

pub returns-in-Ok : goal.returns-in-Ok
returns-in-Ok c = c.free_found.ensures ∙ take-gone _ _ _ _ c.in-Ok.ensures refl

pub returns-in-Err : goal.returns-in-Err
returns-in-Err c = take-stop _ _ _ _ c.in-Err.ensures refl
