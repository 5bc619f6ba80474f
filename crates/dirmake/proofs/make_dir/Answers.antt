-- `make_dir` meets its contract. Assumes nothing.
use borrow.Author.Rules.{rules}
use mathlib.Core.Path.{refl, ◌∙◌}
use Rattle.refusal.proofs.ExitLaws.{passed}
use Rattle.books.proofs.KeepLaws.{kept-left}
use Rattle.ialloc_give.proofs.GiveLaws.{keeps-give}
use Rattle.dirlink.proofs.LinkKeeps.{keeps-link-name}
use Rattle.dirmake.proofs.MakeLaws.{directory_number, number-told, dir-none, dir-made, dir-stop}
use Rattle.dirmake.proofs.make_dir.Goals as goal

pub link_name-requires : goal.link_name-requires
link_name-requires c = let p = c.requires in ((kept-left _ (keeps-give _ _) p.0 c.in_ok-inr.ensures).frame, p.1)

pub fill_dir-requires : goal.fill_dir-requires
fill_dir-requires c =
    let p = c.requires in
    let given = (kept-left _ (keeps-give _ _) p.0 c.in_ok-inr.ensures).frame in
    ((kept-left _ (keeps-link-name _ _ _ _ _) given c.in_ok-link_name.ensures).frame, number-told _ _ _ c.in_ok-inr.ensures refl)

pub returns : goal.returns
returns c = c.fill_dir.ensures ∙ dir-made _ _ _ _ _ c.in_ok-inr.ensures refl directory_number c.in_ok-link_name.ensures refl

pub returns-in_err-inr : goal.returns-in_err-inr
returns-in_err-inr c = rw (passed _ _ c.from_residual.ensures) (dir-none _ _ _ _ _ c.in_err-inr.ensures refl)

pub returns-in_err-link_name : goal.returns-in_err-link_name
returns-in_err-link_name c = rw (passed _ _ c.from_residual-in_err-link_name.ensures) (dir-stop _ _ _ _ _ c.in_ok-inr.ensures refl directory_number c.in_err-link_name.ensures refl)
