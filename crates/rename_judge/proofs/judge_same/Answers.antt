-- `judge_same` meets its contract. Assumes nothing.
use borrow.Author.Rules.{rules}
use Rattle.refusal.proofs.ExitLaws.{passed}
use Rattle.rename_judge.proofs.VerdictLaws.{verdict_free, verdict_no}
use Rattle.rename_judge.proofs.judge_same.Goals as goal

pub returns-in_err-judge_own : goal.returns-in_err-judge_own
returns-in_err-judge_own c = verdict_no _ _ _ _ (passed _ _ c.from_residual.ensures) c.in_err-judge_own.ensures

pub returns : goal.returns
returns c = verdict_free _ _ _ c.in_ok-judge_own.ensures c.same_verdict.ensures
