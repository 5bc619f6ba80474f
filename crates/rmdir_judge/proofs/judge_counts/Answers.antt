-- `judge_counts` meets its contract. Assumes nothing.
use borrow.Author.Rules.{rules}
use mathlib.Core.Path.{ap, ◌∙◌}
use Rattle.refusal.proofs.ExitLaws.{passed}
use Rattle.inode_grow.specs.Grow.{growth_out}
use Rattle.rmdir_judge.proofs.StepLaws.{counts-first, counts-second, counts-third}
use Rattle.rmdir_judge.proofs.judge_counts.Goals as goal

pub returns-in_err-can_fall : goal.returns-in_err-can_fall
returns-in_err-can_fall c = ap growth_out (passed _ _ c.from_residual.ensures) ∙ counts-first _ _ _ _ _ _ c.in_err-can_fall.ensures

pub returns-in_err-can_fall-2 : goal.returns-in_err-can_fall-2
returns-in_err-can_fall-2 c = ap growth_out (passed _ _ c.from_residual-in_err-can_fall-2.ensures) ∙ counts-second _ _ _ _ _ c.in_ok-can_fall.ensures _ c.in_err-can_fall-2.ensures

pub returns : goal.returns
returns c = counts-third _ _ _ _ _ c.in_ok-can_fall.ensures c.in_ok-can_fall-2.ensures _ c.can_fall-3.ensures
