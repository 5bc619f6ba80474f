-- `moved_counts` meets its contract. Assumes nothing.
use borrow.Author.Rules.{rules}
use Rattle.refusal.proofs.ExitLaws.{passed}
use Rattle.rename_judge.proofs.RenameLaws.{both_is, both_no}
use Rattle.rename_judge.proofs.counts.moved_counts.Goals as goal

pub returns-in_err-can_rise : goal.returns-in_err-can_rise
returns-in_err-can_rise c = both_no _ _ _ _ (passed _ _ c.from_residual.ensures) c.in_err-can_rise.ensures

pub returns : goal.returns
returns c = both_is _ _ _ c.in_ok-can_rise.ensures c.source_falls.ensures
