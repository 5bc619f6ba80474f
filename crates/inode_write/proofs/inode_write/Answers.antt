-- `inode_write` meets its contract. Assumes nothing.
use borrow.Author.Tests.{not-true, not-false}
use mathlib.Core.Path.{sym, ◌∙◌}
use Rattle.refusal.proofs.ExitLaws.{passed}
use Rattle.inode_run.proofs.FindLaws.{found-got, find-named}
use Rattle.inode_read.proofs.JudgeLaws.{taken-frame, found_no}
use Rattle.inode_write.proofs.CallLaws.{answer_is, call-unsound, call-read-only, call-no, call-found, in_table}
use Rattle.inode_write.proofs.inode_write.Goals as goal

pub returns-then-not-vol : goal.returns-then-not-vol
returns-then-not-vol c = answer_is (call-read-only _ _ _ _ _ _ (sym c.in_ok-geo.ensures) (not-true _ c.if-not-vol.true))

pub find_inode-requires : goal.find_inode-requires
find_inode-requires c = taken-frame _ _ (sym c.in_ok-geo.ensures)

pub write_found-requires : goal.write_found-requires
write_found-requires c =
    let fr = taken-frame _ _ (sym c.in_ok-geo.ensures) in
    let n = find-named _ _ fr _ _ (found-got _ _ c.in_ok-s.ensures) in
    (fr, n.place.inside, in_table _ _ _ _ n.place)

pub returns : goal.returns
returns c =
    answer_is
    (c.write_found.ensures
    ∙ call-found _ _ _ _ _ _ (sym c.in_ok-geo.ensures) (not-false _ c.if-not-vol.false) (found-got _ _ c.in_ok-s.ensures))

pub returns-in_err-s : goal.returns-in_err-s
returns-in_err-s c =
    rw (passed _ _ c.from_residual-in_err-s.ensures) (answer_is (call-no _ _ _ _ _ _ (sym c.in_ok-geo.ensures) (not-false _ c.if-not-vol.false) (found_no _ _ c.in_err-s.ensures)))

pub returns-in_err-geo : goal.returns-in_err-geo
returns-in_err-geo c = rw (passed _ _ c.from_residual.ensures) (answer_is (call-unsound _ _ _ _ _ (sym c.in_err-geo.ensures)))
