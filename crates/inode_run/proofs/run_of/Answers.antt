-- `run_of` meets its contract. Assumes nothing.
use mathlib.Core.Path.{sym, ◌∙◌}
use Rattle.inode_run.proofs.RunLaws.{run-held, run_end}
use Rattle.inode_run.proofs.run_of.Goals as goal

pub returns-in-Some : goal.returns-in-Some
returns-in-Some c =
    c.run_held.ensures ∙ run-held _ _ _ _ _ _ _ (sym c.in-Some.is ∙ c.get_block_size.ensures) c.resolve_block.ensures

pub returns-in-None : goal.returns-in-None
returns-in-None c = run_end _ _ _ _ _ (sym c.in-None.is ∙ c.get_block_size.ensures)
