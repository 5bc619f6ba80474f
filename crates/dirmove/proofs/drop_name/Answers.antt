-- `drop_name` meets its contract. Assumes nothing.
use borrow.Author.Rules.{rules}
use mathlib.Core.Path.{refl}
use Rattle.refusal.proofs.ExitLaws.{passed}
use Rattle.dirmove.proofs.MoveLaws.{name-dropped, drop-stop}
use Rattle.dirmove.proofs.drop_name.Goals as goal

pub returns : goal.returns
returns c = name-dropped _ _ _ _ _ c.in_ok-take_name.ensures refl

pub returns-in_err-take_name : goal.returns-in_err-take_name
returns-in_err-take_name c = rw (passed _ _ c.from_residual.ensures) (drop-stop _ _ _ _ _ c.in_err-take_name.ensures refl)
