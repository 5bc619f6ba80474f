-- `inode_modify` meets its contract. Assumes nothing.
use mathlib.Core.Path.{sym, ◌∙◌}
use borrow.Author.Tests.{not-true, not-false}
use native.Mathlib.Omega.{arith}
use Rattle.refusal.proofs.ExitLaws.{passed}
use Rattle.balloc.proofs.CallLaws.{taken-frame}
use Rattle.inode_read.proofs.JudgeLaws.{found_no}
use Rattle.inode_run.proofs.FindLaws.{found-got, find-named}
use Rattle.inode_modify.proofs.ModifyLaws.{call-unsound, call-read-only, call-no, call-nameless, call-named, none_or}
use Rattle.inode_modify.proofs.inode_modify.Goals as goal

pub returns-then-not-vol : goal.returns-then-not-vol
returns-then-not-vol c = call-read-only _ _ _ _ _ (sym c.in_ok-geo.ensures) (not-true _ c.if-not-vol.true)

pub find_inode-requires : goal.find_inode-requires
find_inode-requires c = taken-frame _ _ (sym c.in_ok-geo.ensures)

pub modify_at-requires : goal.modify_at-requires
modify_at-requires c =
    let fr = taken-frame _ _ (sym c.in_ok-geo.ensures) in
    (find-named _ _ fr _ _ (found-got _ _ c.in_ok-spot.ensures)).place.inside

pub returns : goal.returns
returns c =
    c.modify_at.ensures
    ∙ call-named _ _ _ _ _ (sym c.in_ok-geo.ensures) (not-false _ c.if-not-vol.false) _ (found-got _ _ c.in_ok-spot.ensures) _
    (grind arith)

pub returns-in_err-k : goal.returns-in_err-k
returns-in_err-k c =
    let q = none_or _ _ _ c.in_err-k.ensures.value in
    rw (passed _ _ c.from_residual-in_err-k.ensures, q.1)
    (call-nameless _ _ _ _ _ (sym c.in_ok-geo.ensures) (not-false _ c.if-not-vol.false) _ (found-got _ _ c.in_ok-spot.ensures) (sym c.kind_of.ensures ∙ q.0))

pub returns-in_err-spot : goal.returns-in_err-spot
returns-in_err-spot c =
    rw (passed _ _ c.from_residual-in_err-spot.ensures) (call-no _ _ _ _ _ (sym c.in_ok-geo.ensures) (not-false _ c.if-not-vol.false) (found_no _ _ c.in_err-spot.ensures))

pub returns-in_err-geo : goal.returns-in_err-geo
returns-in_err-geo c = rw (passed _ _ c.from_residual.ensures) (call-unsound _ _ _ _ (sym c.in_err-geo.ensures))
