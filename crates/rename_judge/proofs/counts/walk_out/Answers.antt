-- `walk_out` meets its contract. Assumes nothing.
use borrow.Author.Rules.{rules}
use Rattle.refusal.proofs.ExitLaws.{passed}
use Rattle.rename_judge.proofs.RenameLaws.{both_is, both_no}
use Rattle.rename_judge.proofs.counts.walk_out.Goals as goal

pub returns-in_err-there : goal.returns-in_err-there
returns-in_err-there c = both_no _ _ _ _ (passed _ _ c.from_residual.ensures) c.in_err-there.ensures

pub returns-in_err-is_unhurt : goal.returns-in_err-is_unhurt
returns-in_err-is_unhurt c = both_is _ _ _ c.in_ok-there.ensures (both_no _ _ _ _ (passed _ _ c.from_residual-in_err-is_unhurt.ensures) c.in_err-is_unhurt.ensures)

pub returns : goal.returns
returns c = both_is _ _ _ c.in_ok-there.ensures (both_is _ _ _ c.in_ok-is_unhurt.ensures c.is_unhurt-2.ensures)
