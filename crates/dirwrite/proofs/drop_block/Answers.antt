-- `drop_block` meets its contract. Assumes nothing.
use borrow.Author.Rules.{rules}
use mathlib.Core.Path.{refl, ◌∙◌}
use Rattle.refusal.proofs.ExitLaws.{passed}
use Rattle.books.proofs.KeepLaws.{kept-left}
use Rattle.dirwrite.proofs.WriteLaws.{drop-closed, drop-stop}
use Rattle.dirwrite.proofs.WriteKeeps.{keeps-close}
use Rattle.dirwrite.proofs.drop_block.Goals as goal

pub cut_to-requires : goal.cut_to-requires
cut_to-requires c = let k = c.requires in (kept-left _ (keeps-close _ _ k.2 _ _) k.0 c.close_up.ensures).frame

pub returns : goal.returns
returns c = c.cut_to.ensures ∙ drop-closed _ _ _ _ _ _ c.in_ok-close_up.ensures refl

pub returns-in_err-close_up : goal.returns-in_err-close_up
returns-in_err-close_up c = rw (passed _ _ c.from_residual.ensures) (drop-stop _ _ _ _ _ _ c.in_err-close_up.ensures refl)
