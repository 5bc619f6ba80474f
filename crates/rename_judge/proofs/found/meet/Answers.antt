-- `meet` meets its contract. Assumes nothing.
use borrow.Author.Rules.{rules}
use Rattle.rename_judge.proofs.RenameLaws.{facts-keeping, facts-replacing}
use Rattle.rename_judge.proofs.found.meet.Goals as goal

pub returns-then-replace : goal.returns-then-replace
returns-then-replace c = facts-replacing _ _ _ _ _ _ _ c.if-replace.true _ _ _ _ c.requires.3 c.record_in-source.ensures c.record_in-target.ensures c.inode_of-way.ensures

pub returns : goal.returns
returns c = facts-keeping _ _ _ _ _ _ _ c.if-replace.false _ _ _ c.requires.3 c.record_in-source.ensures c.inode_in-way.ensures
