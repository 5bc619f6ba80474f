-- `record_in` meets its contract. Assumes nothing.
use borrow.Author.Rules.{rules}
use Rattle.rename_judge.proofs.RenameLaws.{found_in, found-out}
use Rattle.rename_judge.proofs.found.record_in.Goals as goal

pub returns-then-is_dir : goal.returns-then-is_dir
returns-then-is_dir c = found_in _ _ c.args.s _ _ c.is_dir.ensures c.if-is_dir.true _ c.find_dir.ensures

pub returns : goal.returns
returns c = found-out _ _ c.args.s _ _ c.is_dir.ensures c.if-is_dir.false
