-- `judge_unlink` meets its contract. Assumes nothing.
use borrow.Author.Rules.{rules}
use mathlib.Core.Path.{sym, ap, ◌∙◌}
use Rattle.refusal.proofs.ExitLaws.{passed}
use Rattle.inode_grow.specs.Grow.{growth_out}
use Rattle.inode_run.proofs.FindLaws.{found-got}
use Rattle.inode_read.proofs.JudgeLaws.{found_no}
use Rattle.dirfile.proofs.BlockLaws.{dir-named}
use Rattle.unlink_judge.proofs.UnlinkLaws.{unlink-bad-name, unlink-long-name, unlink-no-dir, unlink-in}
use Rattle.unlink_judge.proofs.judge_unlink.Goals as goal

pub returns-then-not-is_taken : goal.returns-then-not-is_taken
returns-then-not-is_taken c = sym (unlink-bad-name _ _ _ _ (sym c.is_taken.ensures ∙ c.if-not-is_taken.true))

pub returns-then-not-is_short : goal.returns-then-not-is_short
returns-then-not-is_short c = sym (unlink-long-name _ _ _ _ (sym c.is_taken.ensures ∙ c.if-not-is_taken.false) (sym c.is_short.ensures ∙ c.if-not-is_short.true))

pub returns-in_err-s : goal.returns-in_err-s
returns-in_err-s c =
    ap growth_out (passed _ _ c.from_residual.ensures)
    ∙ sym (unlink-no-dir _ _ _ _ (sym c.is_taken.ensures ∙ c.if-not-is_taken.false) (sym c.is_short.ensures ∙ c.if-not-is_short.false)
    _ (found_no _ _ c.in_err-s.ensures))

pub judge_in-requires : goal.judge_in-requires
judge_in-requires c =
    let fr = c.requires in
    (fr, (dir-named _ _ fr _ _ (found-got _ _ c.in_ok-s.ensures)).place.inside)

pub returns : goal.returns
returns c =
    c.judge_in.ensures
    ∙ sym (unlink-in _ _ _ _ (sym c.is_taken.ensures ∙ c.if-not-is_taken.false) (sym c.is_short.ensures ∙ c.if-not-is_short.false)
    c.requires _ (found-got _ _ c.in_ok-s.ensures))
