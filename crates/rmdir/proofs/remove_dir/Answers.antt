-- `remove_dir` meets its contract. Assumes nothing.
use borrow.Author.Rules.{rules}
use mathlib.Core.Path.{refl, ◌∙◌}
use Rattle.refusal.proofs.ExitLaws.{passed}
use Rattle.books.proofs.KeepLaws.{kept-left}
use Rattle.dirlink.proofs.LinkKeeps.{keeps-unlink-name}
use Rattle.rmdir.proofs.RmdirLaws.{name-gone, name-stop}
use Rattle.rmdir.proofs.remove_dir.Goals as goal

pub empty_out-requires : goal.empty_out-requires
empty_out-requires c = (kept-left _ (keeps-unlink-name _ _ _) c.requires c.in_ok-unlink_name.ensures).frame

pub returns : goal.returns
returns c = c.empty_out.ensures ∙ name-gone _ _ _ _ _ c.in_ok-unlink_name.ensures refl

pub returns-in_err-unlink_name : goal.returns-in_err-unlink_name
returns-in_err-unlink_name c = rw (passed _ _ c.from_residual.ensures) (name-stop _ _ _ _ _ c.in_err-unlink_name.ensures refl)
