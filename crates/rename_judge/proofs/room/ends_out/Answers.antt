-- `ends_out` meets its contract. Assumes nothing.
use borrow.Author.Rules.{rules}
use Rattle.refusal.proofs.ExitLaws.{passed}
use Rattle.rename_judge.proofs.RenameLaws.{both_is, both_no}
use Rattle.rename_judge.proofs.room.ends_out.Goals as goal

pub returns-in_err-link_ends : goal.returns-in_err-link_ends
returns-in_err-link_ends c = both_no _ _ _ _ (passed _ _ c.from_residual.ensures) c.in_err-link_ends.ensures

pub returns : goal.returns
returns c = both_is _ _ _ c.in_ok-link_ends.ensures c.drop_ends.ensures
