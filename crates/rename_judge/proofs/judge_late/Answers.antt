-- `judge_late` meets its contract. Assumes nothing.
use borrow.Author.Rules.{rules}
use Rattle.refusal.proofs.ExitLaws.{passed}
use Rattle.rename_judge.proofs.RenameLaws.{both_is, both_no}
use Rattle.rename_judge.proofs.judge_late.Goals as goal

pub returns-in_err-walk_out : goal.returns-in_err-walk_out
returns-in_err-walk_out c = both_no _ _ _ _ (passed _ _ c.from_residual.ensures) c.in_err-walk_out.ensures

pub returns-in_err-is_untaken : goal.returns-in_err-is_untaken
returns-in_err-is_untaken c = both_is _ _ _ c.in_ok-walk_out.ensures (both_no _ _ _ _ (passed _ _ c.from_residual-in_err-is_untaken.ensures) c.in_err-is_untaken.ensures)

pub counts_out-requires : goal.counts_out-requires
counts_out-requires c = let p = c.requires in (p.0, p.4, p.5, p.6)

pub returns-in_err-counts_out : goal.returns-in_err-counts_out
returns-in_err-counts_out c = both_is _ _ _ c.in_ok-walk_out.ensures (both_is _ _ _ c.in_ok-is_untaken.ensures (both_no _ _ _ _ (passed _ _ c.from_residual-in_err-counts_out.ensures) c.in_err-counts_out.ensures))

pub room_out-requires : goal.room_out-requires
room_out-requires c = let p = c.requires in (p.0, p.1, p.2, p.3)

pub returns : goal.returns
returns c = both_is _ _ _ c.in_ok-walk_out.ensures (both_is _ _ _ c.in_ok-is_untaken.ensures (both_is _ _ _ c.in_ok-counts_out.ensures c.room_out.ensures))
