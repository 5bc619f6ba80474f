-- `judge_link` meets its contract. Assumes nothing.
use borrow.Author.Rules.{rules}
use mathlib.Core.Path.{sym, ap, ◌∙◌}
use Rattle.refusal.proofs.ExitLaws.{passed}
use Rattle.inode_grow.specs.Grow.{growth_out}
use Rattle.stages.proofs.StagesLaws.{both_first, both_then}
use Rattle.dirjudge.proofs.judge_link.Goals as goal

pub returns-in_err-link_end : goal.returns-in_err-link_end
returns-in_err-link_end c = ap growth_out (passed _ _ c.from_residual.ensures) ∙ sym (both_first _ _ _ (sym c.in_err-link_end.ensures))

pub returns : goal.returns
returns c = c.link_tail.ensures ∙ sym (both_then _ _ (sym c.in_ok-link_end.ensures))
