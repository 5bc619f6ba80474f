-- `judge_rmdir` meets its contract. Assumes nothing.
use borrow.Author.Rules.{rules}
use mathlib.Core.Path.{sym, ◌∙◌}
use Rattle.refusal.proofs.ExitLaws.{passed}
use Rattle.inode_run.proofs.FindLaws.{found-got}
use Rattle.inode_read.proofs.JudgeLaws.{found_no}
use Rattle.dirfile.proofs.BlockLaws.{dir-named}
use Rattle.rmdir_judge.proofs.RmdirLaws.{rmdir-refused, rmdir-bad-name, rmdir-long-name, rmdir-no-dir, rmdir-in}
use Rattle.rmdir_judge.proofs.judge_rmdir.Goals as goal

pub returns-then-not-is_taken : goal.returns-then-not-is_taken
returns-then-not-is_taken c = rmdir-refused _ _ _ _ _ (rmdir-bad-name _ _ _ _ (sym c.is_taken.ensures ∙ c.if-not-is_taken.true))

pub returns-then-not-is_short : goal.returns-then-not-is_short
returns-then-not-is_short c = rmdir-refused _ _ _ _ _ (rmdir-long-name _ _ _ _ (sym c.is_taken.ensures ∙ c.if-not-is_taken.false) (sym c.is_short.ensures ∙ c.if-not-is_short.true))

pub returns-in_err-s : goal.returns-in_err-s
returns-in_err-s c =
    passed _ _ c.from_residual.ensures
    ∙ rmdir-refused _ _ _ _ _ (rmdir-no-dir _ _ _ _ (sym c.is_taken.ensures ∙ c.if-not-is_taken.false) (sym c.is_short.ensures ∙ c.if-not-is_short.false) _ (found_no _ _ c.in_err-s.ensures))

pub judge_in-requires : goal.judge_in-requires
judge_in-requires c = let p = c.requires in (p, (dir-named _ _ p _ _ (found-got _ _ c.in_ok-s.ensures)).place.inside)

pub returns : goal.returns
returns c =
    c.judge_in.ensures
    ∙ rmdir-in _ _ _ _ (sym c.is_taken.ensures ∙ c.if-not-is_taken.false) (sym c.is_short.ensures ∙ c.if-not-is_short.false) c.requires _ (found-got _ _ c.in_ok-s.ensures)
