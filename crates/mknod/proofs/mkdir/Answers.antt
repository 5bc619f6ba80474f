-- `mkdir` meets its contract. Assumes nothing.
use borrow.Author.Rules.{rules}
use borrow.Author.Tests.{not-true, not-false}
use mathlib.Core.Path.{sym, ◌∙◌}
use Rattle.refusal.proofs.ExitLaws.{passed}
use Rattle.balloc.proofs.CallLaws.{taken-frame}
use Rattle.mknod.proofs.MakeLaws.{mkdir-unsound, mkdir-read-only, mkdir-taken}
use Rattle.mknod.proofs.mkdir.Goals as goal

pub returns-then-not-vol : goal.returns-then-not-vol
returns-then-not-vol c = mkdir-read-only _ _ _ _ _ _ _ _ _ (sym c.in_ok-geo.ensures) (not-true _ c.if-not-vol.true)

pub mkdir_in-requires : goal.mkdir_in-requires
mkdir_in-requires c = taken-frame _ _ (sym c.in_ok-geo.ensures)

pub returns : goal.returns
returns c = c.mkdir_in.ensures ∙ mkdir-taken _ _ _ _ _ _ _ _ _ (sym c.in_ok-geo.ensures) (not-false _ c.if-not-vol.false) c.one_time.ensures

pub returns-in_err-geo : goal.returns-in_err-geo
returns-in_err-geo c = rw (passed _ _ c.from_residual.ensures) (mkdir-unsound _ _ _ _ _ _ _ _ (sym c.in_err-geo.ensures))
