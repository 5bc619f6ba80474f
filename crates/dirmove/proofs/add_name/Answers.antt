-- `add_name` meets its contract. Assumes nothing.
use borrow.Author.Rules.{rules}
use mathlib.Core.Path.{refl, ◌∙◌}
use Rattle.refusal.proofs.ExitLaws.{passed}
use Rattle.books.proofs.KeepLaws.{kept-left}
use Rattle.dirwrite.proofs.WriteKeeps.{keeps-bump-found}
use Rattle.dirmove.proofs.MoveLaws.{name-added, add-stop}
use Rattle.dirmove.proofs.add_name.Goals as goal

pub link_name-requires : goal.link_name-requires
link_name-requires c = let p = c.requires in ((kept-left _ (keeps-bump-found _ _) p.0 c.in_ok-bump_found.ensures).frame, p.1)

pub returns : goal.returns
returns c = c.link_name.ensures ∙ name-added _ _ _ _ _ _ c.in_ok-bump_found.ensures refl

pub returns-in_err-bump_found : goal.returns-in_err-bump_found
returns-in_err-bump_found c = rw (passed _ _ c.from_residual.ensures) (add-stop _ _ _ _ _ _ c.in_err-bump_found.ensures refl)
