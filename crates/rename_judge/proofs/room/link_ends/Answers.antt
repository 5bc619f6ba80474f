-- `link_ends` meets its contract. Assumes nothing.
use borrow.Author.Rules.{rules}
use Rattle.refusal.proofs.ExitLaws.{passed}
use Rattle.dirwalk.specs.Walk.{space_out}
use Rattle.rename_judge.proofs.RenameLaws.{both_is, both_no, end-at}
use Rattle.rename_judge.proofs.room.link_ends.Goals as goal

pub returns-in_err-drop_ends : goal.returns-in_err-drop_ends
returns-in_err-drop_ends c = both_no _ _ _ _ (passed _ _ c.from_residual.ensures) c.in_err-drop_ends.ensures

pub returns : goal.returns
returns c = both_is _ _ _ c.in_ok-drop_ends.ensures (end-at c.args.geo (space_out c.args.room) _ _ _ c.size_then.ensures c.link_end.ensures)
