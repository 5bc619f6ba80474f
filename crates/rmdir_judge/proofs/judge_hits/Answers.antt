-- `judge_hits` meets its contract. Assumes nothing.
use borrow.Author.Rules.{rules}
use mathlib.Core.Path.{refl, ap, ◌∙◌}
use Rattle.refusal.proofs.ExitLaws.{passed}
use Rattle.inode_grow.specs.Grow.{growth_out}
use Rattle.rmdir_judge.proofs.StepLaws.{hits-stop, hits-go}
use Rattle.rmdir_judge.proofs.judge_hits.Goals as goal

pub judge_counts-requires : goal.judge_counts-requires
judge_counts-requires c = let p = c.requires in (p.0, p.3)

pub returns-in_err-judge_empty : goal.returns-in_err-judge_empty
returns-in_err-judge_empty c = ap growth_out (passed _ _ c.from_residual.ensures) ∙ hits-stop _ _ _ _ _ _ _ _ _ c.in_err-judge_empty.ensures _ refl

pub returns-in_err-judge_counts : goal.returns-in_err-judge_counts
returns-in_err-judge_counts c =
    ap growth_out (passed _ _ c.from_residual-in_err-judge_counts.ensures)
    ∙ hits-go _ _ _ _ _ _ _ _ _ c.in_ok-judge_empty.ensures refl _ _ _ c.in_err-judge_counts.ensures refl refl

pub returns : goal.returns
returns c = hits-go _ _ _ _ _ _ _ _ _ c.in_ok-judge_empty.ensures refl _ _ _ c.in_ok-judge_counts.ensures c.judge_drops.ensures refl
