-- `recount` meets its contract: 97, 30, or the counts written from the maps. Assumes nothing.
use borrow.Author.Rules.{rules}
use borrow.Author.Tests.{not-true, not-false}
use mathlib.Core.Path.{sym}
use Rattle.refusal.proofs.ExitLaws.{passed}
use Rattle.balloc.proofs.CallLaws.{taken-frame, recount-unsound, recount-read-only, recount-done}
use Rattle.balloc.proofs.recount.Goals as goal

pub returns-then-not-vol : goal.returns-then-not-vol
returns-then-not-vol c = recount-read-only _ _ _ (sym c.in_ok-geo.ensures) (not-true _ c.if-not-vol.true)

pub recount_all-f-requires : goal.recount_all-f-requires
recount_all-f-requires c = taken-frame _ _ (sym c.in_ok-geo.ensures)

pub returns : goal.returns
returns c =
    recount-done _ _ _ (sym c.in_ok-geo.ensures) (not-false _ c.if-not-vol.false) _ _ c.recount_all-f.ensures

pub returns-in_err-geo : goal.returns-in_err-geo
returns-in_err-geo c = rw (passed _ _ c.from_residual.ensures) (recount-unsound _ _ (sym c.in_err-geo.ensures))
