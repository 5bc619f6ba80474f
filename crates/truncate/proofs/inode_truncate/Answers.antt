-- `inode_truncate` meets its contract. Assumes nothing.
use mathlib.Core.Path.{sym, ◌∙◌}
use borrow.Author.Tests.{not-true, not-false}
use Rattle.refusal.proofs.ExitLaws.{passed}
use Rattle.balloc.proofs.CallLaws.{taken-frame}
use Rattle.inode_read.proofs.JudgeLaws.{found_no}
use Rattle.inode_run.proofs.FindLaws.{found-got, find-named}
use Rattle.truncate.proofs.CallLaws.{call-unsound, call-read-only, call-no, call-found}
use Rattle.truncate.proofs.inode_truncate.Goals as goal

pub returns-then-not-vol : goal.returns-then-not-vol
returns-then-not-vol c = call-read-only _ _ _ _ _ (sym c.in_ok-geo.ensures) (not-true _ c.if-not-vol.true)

pub find_inode-requires : goal.find_inode-requires
find_inode-requires c = taken-frame _ _ (sym c.in_ok-geo.ensures)

pub truncate_found-requires : goal.truncate_found-requires
truncate_found-requires c =
    let fr = taken-frame _ _ (sym c.in_ok-geo.ensures) in
    (fr, (find-named _ _ fr _ _ (found-got _ _ c.in_ok-spot.ensures)).place.inside)

pub returns : goal.returns
returns c =
    c.truncate_found.ensures
    ∙ call-found _ _ _ _ _ (sym c.in_ok-geo.ensures) (not-false _ c.if-not-vol.false) _ (found-got _ _ c.in_ok-spot.ensures)

pub returns-in_err-spot : goal.returns-in_err-spot
returns-in_err-spot c =
    rw (passed _ _ c.from_residual-in_err-spot.ensures) (call-no _ _ _ _ _ (sym c.in_ok-geo.ensures) (not-false _ c.if-not-vol.false) (found_no _ _ c.in_err-spot.ensures))

pub returns-in_err-geo : goal.returns-in_err-geo
returns-in_err-geo c = rw (passed _ _ c.from_residual.ensures) (call-unsound _ _ _ _ (sym c.in_err-geo.ensures))
