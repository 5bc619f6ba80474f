-- `not_freed` meets its contract. Assumes nothing.
use borrow.Author.Rules.{rules}
use Rattle.rename_judge.proofs.RenameLaws.{seen-number}
use Rattle.rename_judge.proofs.found.not_freed.Goals as goal

pub left_for-requires : goal.left_for-requires
left_for-requires c = (c.requires.0, seen-number _ _ _ c.in-Ok-Some.t (search rules) c.requires.1)
