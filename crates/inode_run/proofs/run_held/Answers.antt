-- `run_held` meets its contract. Assumes nothing.
use mathlib.Core.Path.{sym, ◌∙◌}
use Rattle.inode_run.proofs.RunLaws.{run-good, run-wrong, run-hole, run-bad, run_past}
use Rattle.inode_run.proofs.run_held.Goals as goal

pub returns-then-run_ok : goal.returns-then-run_ok
returns-then-run_ok c = run-good _ _ _ _ _ c.in-At.is (sym c.run_ok.ensures ∙ c.if-run_ok.true)

pub returns-else-run_ok : goal.returns-else-run_ok
returns-else-run_ok c = run-wrong _ _ _ _ _ c.in-At.is (sym c.run_ok.ensures ∙ c.if-run_ok.false)

pub returns-in-Hole : goal.returns-in-Hole
returns-in-Hole c = run-hole _ _ _ _ c.in-Hole.is

pub returns-in-Bad : goal.returns-in-Bad
returns-in-Bad c = run-bad _ _ _ _ c.in-Bad.is

pub returns-in-Past : goal.returns-in-Past
returns-in-Past c = run_past _ _ _ _ c.in-Past.is
