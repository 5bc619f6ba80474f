-- `judge_hit` meets its contract. Assumes nothing.
use borrow.Author.Rules.{rules}
use mathlib.Core.Path.{sym, ap, ◌∙◌}
use Rattle.refusal.proofs.ExitLaws.{passed}
use Rattle.inode_grow.specs.Grow.{growth_out}
use Rattle.stages.proofs.StagesLaws.{both_first, both_then}
use Rattle.unlink_judge.proofs.judge_hit.Goals as goal

pub returns-in_err-can_fall : goal.returns-in_err-can_fall
returns-in_err-can_fall c = ap growth_out (passed _ _ c.from_residual.ensures) ∙ sym (both_first _ _ _ (sym c.in_err-can_fall.ensures))

pub returns : goal.returns
returns c = c.judge_drop.ensures ∙ sym (both_then _ _ (sym c.in_ok-can_fall.ensures))
