-- `relink` meets its contract. Assumes nothing.
use borrow.Author.Rules.{rules}
use mathlib.Core.Path.{refl, ◌∙◌}
use Rattle.refusal.proofs.ExitLaws.{passed}
use Rattle.books.proofs.KeepLaws.{kept-left}
use Rattle.dirmove.proofs.MoveLaws.{keeps-add, relink-added, relink-stop}
use Rattle.dirmove.proofs.relink.Goals as goal

pub drop_name-requires : goal.drop_name-requires
drop_name-requires c = (kept-left _ (keeps-add _ _ _ _ _) c.requires.0 c.in_ok-add_name.ensures).frame

pub returns : goal.returns
returns c = c.drop_name.ensures ∙ relink-added _ _ _ _ _ _ _ _ c.in_ok-add_name.ensures refl

pub returns-in_err-add_name : goal.returns-in_err-add_name
returns-in_err-add_name c = rw (passed _ _ c.from_residual.ensures) (relink-stop _ _ _ _ _ _ _ _ c.in_err-add_name.ensures refl)
