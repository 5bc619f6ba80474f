-- `move_name` meets its contract. Assumes nothing.
use borrow.Author.Rules.{rules}
use mathlib.Core.Path.{refl, ◌∙◌}
use Rattle.refusal.proofs.ExitLaws.{passed}
use Rattle.books.proofs.KeepLaws.{kept-left}
use Rattle.dirmove.proofs.MoveLaws.{keeps-clear, move-cleared, move-stop}
use Rattle.dirmove.proofs.move_name.Goals as goal

pub relink-requires : goal.relink-requires
relink-requires c = let p = c.requires in ((kept-left _ (keeps-clear _ _ _ _) p.0 c.in_ok-clear_way.ensures).frame, p.1)

pub returns : goal.returns
returns c = c.relink.ensures ∙ move-cleared _ _ _ _ _ _ _ _ _ c.in_ok-clear_way.ensures refl

pub returns-in_err-clear_way : goal.returns-in_err-clear_way
returns-in_err-clear_way c = rw (passed _ _ c.from_residual.ensures) (move-stop _ _ _ _ _ _ _ _ _ c.in_err-clear_way.ensures refl)
