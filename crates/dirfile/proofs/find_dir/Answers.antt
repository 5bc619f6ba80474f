-- `find_dir` meets its contract. Assumes nothing.
use borrow.Author.Rules.{rules}
use mathlib.Core.Path.{sym, ◌∙◌}
use Rattle.refusal.proofs.ExitLaws.{passed}
use Rattle.dirfile.proofs.BlockLaws.{dir-got, dir-other, dir-none}
use Rattle.dirfile.proofs.find_dir.Goals as goal

pub returns-then-is_dir : goal.returns-then-is_dir
returns-then-is_dir c = dir-got _ _ _ _ c.in_ok-s.ensures (sym c.is_dir.ensures ∙ c.if-is_dir.true)

pub returns : goal.returns
returns c = dir-other _ _ _ _ c.in_ok-s.ensures (sym c.is_dir.ensures ∙ c.if-is_dir.false)

pub returns-in_err-s : goal.returns-in_err-s
returns-in_err-s c = passed _ _ c.from_residual.ensures ∙ dir-none _ _ _ _ c.in_err-s.ensures
