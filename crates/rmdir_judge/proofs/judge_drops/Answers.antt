-- `judge_drops` meets its contract. Assumes nothing.
use borrow.Author.Rules.{rules}
use mathlib.Core.Path.{ap, ◌∙◌}
use Rattle.refusal.proofs.ExitLaws.{passed}
use Rattle.inode_grow.specs.Grow.{growth_out}
use Rattle.dirjudge.specs.Judge.{drop_end, drop_tail}
use Rattle.rmdir_judge.proofs.StepLaws.{drops-first, drops-second, drops-third, first-refuses, second-tells}
use Rattle.rmdir_judge.proofs.judge_drops.Goals as goal

pub returns-in_err-drop_end : goal.returns-in_err-drop_end
returns-in_err-drop_end c = ap growth_out (passed _ _ c.from_residual.ensures) ∙ first-refuses _ _ _ (drops-first drop_end _ _ _ _ _ _ _ _ c.in_err-drop_end.ensures)

pub returns-in_err-drop_end-2 : goal.returns-in_err-drop_end-2
returns-in_err-drop_end-2 c =
    ap growth_out (passed _ _ c.from_residual-in_err-drop_end-2.ensures)
    ∙ first-refuses _ _ _ (drops-second drop_end _ _ _ _ _ _ _ c.in_ok-drop_end.ensures _ c.in_err-drop_end-2.ensures)

pub returns-in_err-drop_end-3 : goal.returns-in_err-drop_end-3
returns-in_err-drop_end-3 c =
    ap growth_out (passed _ _ c.from_residual-in_err-drop_end-3.ensures)
    ∙ first-refuses _ _ _ (drops-third drop_end _ _ _ _ _ _ _ c.in_ok-drop_end.ensures c.in_ok-drop_end-2.ensures _ _ c.size_after-left.ensures c.own_after-last.ensures _ c.in_err-drop_end-3.ensures)

pub returns-in_err-drop_tail : goal.returns-in_err-drop_tail
returns-in_err-drop_tail c =
    ap growth_out (passed _ _ c.from_residual-in_err-drop_tail.ensures)
    ∙ second-tells _ _
    (drops-third drop_end _ _ _ _ _ _ _ c.in_ok-drop_end.ensures c.in_ok-drop_end-2.ensures _ _ c.size_after-left.ensures c.own_after-last.ensures _ c.in_ok-drop_end-3.ensures)
    _ (drops-first drop_tail _ _ _ _ _ _ _ _ c.in_err-drop_tail.ensures)

pub returns-in_err-drop_tail-2 : goal.returns-in_err-drop_tail-2
returns-in_err-drop_tail-2 c =
    ap growth_out (passed _ _ c.from_residual-in_err-drop_tail-2.ensures)
    ∙ second-tells _ _
    (drops-third drop_end _ _ _ _ _ _ _ c.in_ok-drop_end.ensures c.in_ok-drop_end-2.ensures _ _ c.size_after-left.ensures c.own_after-last.ensures _ c.in_ok-drop_end-3.ensures)
    _ (drops-second drop_tail _ _ _ _ _ _ _ c.in_ok-drop_tail.ensures _ c.in_err-drop_tail-2.ensures)

pub returns : goal.returns
returns c =
    second-tells _ _
    (drops-third drop_end _ _ _ _ _ _ _ c.in_ok-drop_end.ensures c.in_ok-drop_end-2.ensures _ _ c.size_after-left.ensures c.own_after-last.ensures _ c.in_ok-drop_end-3.ensures)
    _ (drops-third drop_tail _ _ _ _ _ _ _ c.in_ok-drop_tail.ensures c.in_ok-drop_tail-2.ensures _ _ c.size_after-left.ensures c.own_after-last.ensures _ c.drop_tail-3.ensures)
