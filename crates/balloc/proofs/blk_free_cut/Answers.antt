-- `blk_free_cut` meets its contract: 97, 30, or the taking back as far as the first k stores. Assumes nothing.
use borrow.Author.Rules.{rules}
use borrow.Author.Tests.{not-true, not-false}
use mathlib.Core.Path.{sym}
use Rattle.refusal.proofs.ExitLaws.{passed}
use Rattle.balloc.proofs.CallLaws.{taken-frame, free-unsound, free-read-only, free-done}
use Rattle.balloc.proofs.blk_free_cut.Goals as goal

pub returns-then-not-vol : goal.returns-then-not-vol
returns-then-not-vol c = free-read-only _ _ _ _ _ _ (sym c.in-Ok.ensures) (not-true _ c.if-not-vol.true)

pub blk_take-requires : goal.blk_take-requires
blk_take-requires c = taken-frame _ _ (sym c.in-Ok.ensures)

pub returns : goal.returns
returns c =
    free-done _ _ _ _ _ _ (sym c.in-Ok.ensures) (not-false _ c.if-not-vol.false) _ _ _ c.in_ok-n.ensures

pub returns-in_default : goal.returns-in_default
returns-in_default c = free-unsound _ _ _ _ _ (sym c.in_default.ensures)

pub returns-in_err-n : goal.returns-in_err-n
returns-in_err-n c =
    rw (passed _ _ c.from_residual.ensures)
    (free-done _ _ _ _ _ _ (sym c.in-Ok.ensures) (not-false _ c.if-not-vol.false) _ _ _ c.in_err-n.ensures)
