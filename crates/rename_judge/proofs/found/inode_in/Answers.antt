-- `inode_in` meets its contract. Assumes nothing.
use borrow.Author.Rules.{rules}
use Rattle.rename_judge.proofs.RenameLaws.{looked-in, looked-out}
use Rattle.rename_judge.proofs.found.inode_in.Goals as goal

pub returns-then-is_dir : goal.returns-then-is_dir
returns-then-is_dir c = looked-in _ _ c.args.s _ _ c.is_dir.ensures c.if-is_dir.true _ c.lookup_dir.ensures

pub returns : goal.returns
returns c = looked-out _ _ c.args.s _ _ c.is_dir.ensures c.if-is_dir.false
