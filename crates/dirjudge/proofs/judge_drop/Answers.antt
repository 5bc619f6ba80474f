-- `judge_drop` meets its contract. Assumes nothing.
use borrow.Author.Rules.{rules}
use mathlib.Core.Path.{sym, ap, ◌∙◌}
use Rattle.refusal.proofs.ExitLaws.{passed}
use Rattle.inode_grow.specs.Grow.{growth_out}
use Rattle.stages.proofs.StagesLaws.{both_first, both_then}
use Rattle.dirjudge.proofs.judge_drop.Goals as goal

pub returns-in_err-drop_end : goal.returns-in_err-drop_end
returns-in_err-drop_end c = ap growth_out (passed _ _ c.from_residual.ensures) ∙ sym (both_first _ _ _ (sym c.in_err-drop_end.ensures))

pub returns : goal.returns
returns c = c.drop_tail.ensures ∙ sym (both_then _ _ (sym c.in_ok-drop_end.ensures))
