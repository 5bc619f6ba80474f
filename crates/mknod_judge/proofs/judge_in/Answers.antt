-- `judge_in` meets its contract. Assumes nothing.
use borrow.Author.Rules.{rules}
use mathlib.Core.Path.{sym, ap, ◌∙◌}
use Rattle.refusal.proofs.ExitLaws.{passed}
use Rattle.stages.proofs.StagesLaws.{both_first, both_then}
use Rattle.mknod_judge.specs.Make.{absent_out}
use Rattle.mknod_judge.proofs.MakeLaws.{name-there, name-absent}
use Rattle.mknod_judge.proofs.judge_in.Goals as goal

pub returns-then-is_some : goal.returns-then-is_some
returns-then-is_some c = sym (both_first _ _ _ (name-there _ c.in_ok-lookup_dir.ensures c.is_some.ensures c.if-is_some.true))

pub returns : goal.returns
returns c = c.judge_room.ensures ∙ sym (both_then _ _ (name-absent _ c.in_ok-lookup_dir.ensures c.is_some.ensures c.if-is_some.false))

pub returns-in_err-lookup_dir : goal.returns-in_err-lookup_dir
returns-in_err-lookup_dir c = rw (passed _ _ c.from_residual.ensures) (sym (both_first _ _ _ (ap absent_out (sym c.in_err-lookup_dir.ensures))))
