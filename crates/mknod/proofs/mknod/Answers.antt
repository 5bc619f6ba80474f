-- `mknod` meets its contract. Assumes nothing.
use borrow.Author.Rules.{rules}
use borrow.Author.Tests.{not-true, not-false}
use mathlib.Core.Path.{sym, ◌∙◌}
use Rattle.refusal.proofs.ExitLaws.{passed}
use Rattle.balloc.proofs.CallLaws.{taken-frame}
use Rattle.mknod.proofs.MakeLaws.{mknod-unsound, mknod-read-only, mknod-taken}
use Rattle.mknod.proofs.mknod.Goals as goal

pub returns-then-not-vol : goal.returns-then-not-vol
returns-then-not-vol c = mknod-read-only _ _ _ _ _ _ _ _ _ _ (sym c.in_ok-geo.ensures) (not-true _ c.if-not-vol.true)

pub mknod_in-requires : goal.mknod_in-requires
mknod_in-requires c = taken-frame _ _ (sym c.in_ok-geo.ensures)

pub returns : goal.returns
returns c = c.mknod_in.ensures ∙ mknod-taken _ _ _ _ _ _ _ _ _ _ (sym c.in_ok-geo.ensures) (not-false _ c.if-not-vol.false) c.one_time.ensures

pub returns-in_err-geo : goal.returns-in_err-geo
returns-in_err-geo c = rw (passed _ _ c.from_residual.ensures) (mknod-unsound _ _ _ _ _ _ _ _ _ (sym c.in_err-geo.ensures))
