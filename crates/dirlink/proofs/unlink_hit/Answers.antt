-- `unlink_hit` meets its contract. Assumes nothing.
use borrow.Author.Rules.{rules}
use mathlib.Core.Path.{refl}
use Rattle.refusal.proofs.ExitLaws.{passed}
use Rattle.dirlink.proofs.LinkLaws.{hit-gone, hit-stop}
use Rattle.dirlink.proofs.unlink_hit.Goals as goal

pub returns : goal.returns
returns c = hit-gone _ _ _ _ _ _ c.in_ok-take_hit.ensures refl

pub returns-in_err-take_hit : goal.returns-in_err-take_hit
returns-in_err-take_hit c = rw (passed _ _ c.from_residual.ensures) (hit-stop _ _ _ _ _ _ c.in_err-take_hit.ensures refl)
