-- `judge_met` meets its contract. Assumes nothing.
use borrow.Author.Rules.{rules}
use Rattle.refusal.proofs.ExitLaws.{passed}
use Rattle.dirwalk.specs.Walk.{looked_out}
use Rattle.rename_judge.specs.Rename.{met_facts}
use Rattle.rename_judge.proofs.RenameLaws.{move-at, moving-own}
use Rattle.rename_judge.proofs.VerdictLaws.{verdict_free, verdict_no}
use Rattle.rename_judge.proofs.judge_met.Goals as goal

pub returns-in_err-judge_moving : goal.returns-in_err-judge_moving
returns-in_err-judge_moving c = verdict_no _ _ _ _ (passed _ _ c.from_residual.ensures) c.in_err-judge_moving.ensures

pub move_verdict-requires : goal.move_verdict-requires
move_verdict-requires c = (c.requires.0, moving-own c.args.geo c.args.img.now c.args.ddinr.0 c.args.sdinr.0 c.args.to c.args.from c.args.n c.args.replace (met_facts c.args.m) c.in_ok-judge_moving.ensures)

pub returns : goal.returns
returns c = verdict_free _ _ _ c.in_ok-judge_moving.ensures (move-at c.args.geo c.args.img.now c.args.replace _ _ c.is_there.ensures (looked_out c.args.m.moved) _ c.move_verdict.ensures)
