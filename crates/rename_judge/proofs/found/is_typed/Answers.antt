-- `is_typed` meets its contract. Assumes nothing.
use borrow.Author.Rules.{rules}
use Rattle.inode_run.specs.Find.{typed}
use Rattle.rename_judge.proofs.found.is_typed.Goals as goal

pub returns : goal.returns
unfolding typed
returns c = cc
