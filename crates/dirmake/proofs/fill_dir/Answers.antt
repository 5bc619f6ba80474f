-- `fill_dir` meets its contract. Assumes nothing.
use borrow.Author.Rules.{rules}
use mathlib.Core.Path.{refl, ◌∙◌}
use Rattle.refusal.proofs.ExitLaws.{passed}
use Rattle.books.proofs.KeepLaws.{kept-left}
use Rattle.dirwrite.proofs.WriteKeeps.{keeps-bump-found}
use Rattle.dirmake.proofs.MakeLaws.{fill_stop, fill-sized, fill-unsized}
use Rattle.dirmake.proofs.MakeKeeps.{keeps-first-size}
use Rattle.dirmake.proofs.fill_dir.Goals as goal

pub size_first-requires : goal.size_first-requires
size_first-requires c = let p = c.requires in ((kept-left _ (keeps-bump-found _ _) p.0 c.in_ok-bump_found.ensures).frame, p.1)

pub write_first-requires : goal.write_first-requires
write_first-requires c =
    let p = c.requires in
    let raised = (kept-left _ (keeps-bump-found _ _) p.0 c.in_ok-bump_found.ensures).frame in
    ((kept-left _ (keeps-first-size _ _ p.1) raised c.in_ok-size_first.ensures).frame, p.1)

pub returns : goal.returns
returns c = c.write_first.ensures ∙ fill-sized _ _ _ _ c.in_ok-bump_found.ensures refl c.in_ok-size_first.ensures refl

pub returns-in_err-bump_found : goal.returns-in_err-bump_found
returns-in_err-bump_found c = rw (passed _ _ c.from_residual.ensures) (fill_stop _ _ _ _ c.in_err-bump_found.ensures refl)

pub returns-in_err-size_first : goal.returns-in_err-size_first
returns-in_err-size_first c = rw (passed _ _ c.from_residual-in_err-size_first.ensures) (fill-unsized _ _ _ _ c.in_ok-bump_found.ensures refl c.in_err-size_first.ensures refl)
