-- `is_dir` meets its contract. Assumes nothing.
use borrow.Author.Rules.{rules}
use Rattle.inode.proofs.is_dir.Goals as goal

pub returns : goal.returns
returns c = cc
