-- `take_own` meets its contract. Assumes nothing.
use borrow.Author.Rules.{rules}
use mathlib.Core.Path.{refl, ◌∙◌}
use Rattle.refusal.proofs.ExitLaws.{passed}
use Rattle.books.proofs.KeepLaws.{kept-left}
use Rattle.dirtake.proofs.TakeLaws.{keeps-take-name}
use Rattle.rmdir.proofs.RmdirLaws.{own-gone, own-stop}
use Rattle.rmdir.proofs.take_own.Goals as goal

pub free_found-requires : goal.free_found-requires
free_found-requires c = (kept-left _ (keeps-take-name _ _ _) c.requires c.in_ok-take_name.ensures).frame

pub returns : goal.returns
returns c = c.free_found.ensures ∙ own-gone _ _ _ c.in_ok-take_name.ensures refl

pub returns-in_err-take_name : goal.returns-in_err-take_name
returns-in_err-take_name c = rw (passed _ _ c.from_residual.ensures) (own-stop _ _ _ c.in_err-take_name.ensures refl)
