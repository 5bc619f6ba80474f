-- `tails_out` meets its contract. Assumes nothing.
use borrow.Author.Rules.{rules}
use Rattle.refusal.proofs.ExitLaws.{passed}
use Rattle.rename_judge.proofs.RenameLaws.{both_is, both_no}
use Rattle.rename_judge.proofs.room.tails_out.Goals as goal

pub returns-in_err-link_tails : goal.returns-in_err-link_tails
returns-in_err-link_tails c = both_no _ _ _ _ (passed _ _ c.from_residual.ensures) c.in_err-link_tails.ensures

pub returns : goal.returns
returns c = both_is _ _ _ c.in_ok-link_tails.ensures c.drop_tails.ensures
