-- `link_tails` meets its contract. Assumes nothing.
use borrow.Author.Rules.{rules}
use Rattle.refusal.proofs.ExitLaws.{passed}
use Rattle.rename_judge.proofs.RenameLaws.{both_is, both_no}
use Rattle.rename_judge.proofs.room.link_tails.Goals as goal

pub returns-in_err-drop_tails : goal.returns-in_err-drop_tails
returns-in_err-drop_tails c = both_no _ _ _ _ (passed _ _ c.from_residual.ensures) c.in_err-drop_tails.ensures

pub returns : goal.returns
returns c = both_is _ _ _ c.in_ok-drop_tails.ensures c.tail_left.ensures
