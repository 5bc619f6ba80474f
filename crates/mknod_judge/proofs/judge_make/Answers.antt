-- `judge_make` meets its contract. Assumes nothing.
use borrow.Author.Rules.{rules}
use mathlib.Core.Path.{sym, ◌∙◌}
use native.Mathlib.Omega.{arith}
use Rattle.refusal.proofs.ExitLaws.{passed}
use Rattle.inode_run.proofs.FindLaws.{found-got}
use Rattle.inode_read.proofs.JudgeLaws.{found_no}
use Rattle.dirnames.proofs.Theorems.{short-says}
use Rattle.dirfile.proofs.BlockLaws.{dir-named}
use Rattle.mknod_judge.proofs.MakeLaws.{make-bad-name, make-long-name, make-no-dir, make-in}
use Rattle.mknod_judge.proofs.judge_make.Goals as goal

pub returns-then-not-is_taken : goal.returns-then-not-is_taken
returns-then-not-is_taken c = sym (make-bad-name _ _ _ _ _ (sym c.is_taken.ensures ∙ c.if-not-is_taken.true))

pub returns-then-not-is_short : goal.returns-then-not-is_short
returns-then-not-is_short c = sym (make-long-name _ _ _ _ _ (sym c.is_taken.ensures ∙ c.if-not-is_taken.false) (sym c.is_short.ensures ∙ c.if-not-is_short.true))

pub judge_in-requires : goal.judge_in-requires
judge_in-requires c =
    let fr = c.requires in
    let few = short-says _ (sym c.is_short.ensures ∙ c.if-not-is_short.false) in
    (fr, (dir-named _ _ fr _ _ (found-got _ _ c.in_ok-s.ensures)).place.inside, omega (arith, few))

pub returns : goal.returns
returns c =
    c.judge_in.ensures
    ∙ sym (make-in _ _ _ _ _ (sym c.is_taken.ensures ∙ c.if-not-is_taken.false) (sym c.is_short.ensures ∙ c.if-not-is_short.false)
    c.requires _ (found-got _ _ c.in_ok-s.ensures))

pub returns-in_err-s : goal.returns-in_err-s
returns-in_err-s c =
    rw (passed _ _ c.from_residual.ensures)
    (sym (make-no-dir _ _ _ _ _ (sym c.is_taken.ensures ∙ c.if-not-is_taken.false) (sym c.is_short.ensures ∙ c.if-not-is_short.false)
    _ (found_no _ _ c.in_err-s.ensures)))
