-- `unlink` meets its contract. Assumes nothing.
use borrow.Author.Rules.{rules}
use borrow.Author.Tests.{not-true, not-false}
use mathlib.Core.Path.{sym, ◌∙◌}
use Rattle.refusal.proofs.ExitLaws.{passed}
use Rattle.balloc.proofs.CallLaws.{taken-frame}
use Rattle.unlink.proofs.UnlinkLaws.{unlink-unsound, unlink-read-only, unlink-taken}
use Rattle.unlink.proofs.unlink.Goals as goal

pub returns-then-not-vol : goal.returns-then-not-vol
returns-then-not-vol c = unlink-read-only _ _ _ _ _ (sym c.in_ok-geo.ensures) (not-true _ c.if-not-vol.true)

pub unlink_in-requires : goal.unlink_in-requires
unlink_in-requires c = taken-frame _ _ (sym c.in_ok-geo.ensures)

pub returns : goal.returns
returns c = c.unlink_in.ensures ∙ unlink-taken _ _ _ _ _ (sym c.in_ok-geo.ensures) (not-false _ c.if-not-vol.false)

pub returns-in_err-geo : goal.returns-in_err-geo
returns-in_err-geo c = rw (passed _ _ c.from_residual.ensures) (unlink-unsound _ _ _ _ (sym c.in_err-geo.ensures))
