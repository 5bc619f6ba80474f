-- `judge_found` meets its contract. Assumes nothing.
use borrow.Author.Rules.{rules}
use mathlib.Core.Path.{ap, ◌∙◌}
use Rattle.refusal.proofs.ExitLaws.{passed}
use Rattle.inode_grow.specs.Grow.{growth_out}
use Rattle.inode_run.proofs.FindLaws.{found-got, number-is}
use Rattle.inode_read.proofs.JudgeLaws.{found_no}
use Rattle.dirfile.proofs.BlockLaws.{dir-named}
use Rattle.rmdir_judge.proofs.RmdirLaws.{found-dirs, found_none}
use Rattle.rmdir_judge.proofs.judge_found.Goals as goal

pub returns-in_err-e : goal.returns-in_err-e
returns-in_err-e c = ap growth_out (passed _ _ c.from_residual.ensures) ∙ found_none _ _ _ _ _ _ (found_no _ _ c.in_err-e.ensures)

pub judge_dirs-requires : goal.judge_dirs-requires
judge_dirs-requires c = let p = c.requires in let a = dir-named _ _ p.0 _ _ (found-got _ _ c.in_ok-e.ensures) in (p.0, p.1, a.place.inside, (number-is _ _ a.number).1)

pub returns : goal.returns
returns c = found-dirs _ _ _ _ _ _ (found-got _ _ c.in_ok-e.ensures) _ c.judge_dirs.ensures
