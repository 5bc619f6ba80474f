-- `rename_in` meets its contract. Assumes nothing.
use borrow.Author.Rules.{rules}
use mathlib.Core.Path.{sym, ap, ◌∙◌, refl}
use Rattle.std.specs.Prelude.{Ok}
use Rattle.refusal.proofs.ExitLaws.{passed}
use Rattle.rename_judge.proofs.ToldLaws.{told_move}
use Rattle.rename.proofs.RenameLaws.{rename-same, rename-moves, rename-no}
use Rattle.rename.proofs.rename_in.Goals as goal

pub move_name-requires : goal.move_name-requires
move_name-requires c = let m = told_move _ _ _ _ _ _ (sym (ap Ok c.in-Move.is) ∙ c.in_ok-i.ensures) in (c.requires, m.short)

pub returns-in-Same : goal.returns-in-Same
returns-in-Same c = rename-same _ _ _ c.in_ok-i.ensures (ap Ok c.in-Same.is)

pub returns-in-Move : goal.returns-in-Move
returns-in-Move c = c.move_name.ensures ∙ rename-moves _ _ _ c.in_ok-i.ensures (ap Ok c.in-Move.is)

pub returns-in_err-i : goal.returns-in_err-i
returns-in_err-i c = rw (passed _ _ c.from_residual.ensures) (rename-no _ _ _ c.in_err-i.ensures refl)
