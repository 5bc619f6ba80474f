-- `know_inode` meets its contract. Assumes nothing.
use mathlib.Core.Path.{sym, ◌∙◌}
use Rattle.refusal.proofs.ExitLaws.{passed}
use Rattle.inode_read.proofs.JudgeLaws.{taken-frame, known-unsound, known_at, known-no}
use Rattle.inode_read.proofs.know_inode.Goals as goal

pub find_inode-requires : goal.find_inode-requires
find_inode-requires c = taken-frame _ _ (sym c.in_ok-geo.ensures)

pub returns : goal.returns
returns c = known_at _ _ _ (sym c.in_ok-geo.ensures) _ c.in_ok-s.ensures

pub returns-in_err-geo : goal.returns-in_err-geo
returns-in_err-geo c = passed _ _ c.from_residual.ensures ∙ known-unsound _ _ (sym c.in_err-geo.ensures)

pub returns-in_err-s : goal.returns-in_err-s
returns-in_err-s c = passed _ _ c.from_residual-in_err-s.ensures ∙ known-no _ _ _ (sym c.in_ok-geo.ensures) _ c.in_err-s.ensures
