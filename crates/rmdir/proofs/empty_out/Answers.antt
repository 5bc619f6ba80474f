-- `empty_out` meets its contract. Assumes nothing.
use borrow.Author.Rules.{rules}
use mathlib.Core.Path.{refl, ◌∙◌}
use Rattle.refusal.proofs.ExitLaws.{passed}
use Rattle.books.proofs.KeepLaws.{kept-left}
use Rattle.dirtake.proofs.TakeLaws.{keeps-take-name}
use Rattle.rmdir.proofs.RmdirLaws.{parent-gone, parent-stop}
use Rattle.rmdir.proofs.empty_out.Goals as goal

pub take_own-requires : goal.take_own-requires
take_own-requires c = (kept-left _ (keeps-take-name _ _ _) c.requires c.in_ok-take_name.ensures).frame

pub returns : goal.returns
returns c = c.take_own.ensures ∙ parent-gone _ _ _ c.in_ok-take_name.ensures refl

pub returns-in_err-take_name : goal.returns-in_err-take_name
returns-in_err-take_name c = rw (passed _ _ c.from_residual.ensures) (parent-stop _ _ _ c.in_err-take_name.ensures refl)
