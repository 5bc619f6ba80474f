-- `way_falls` meets its contract. Assumes nothing.
use borrow.Author.Rules.{rules}
use Rattle.rename_judge.proofs.RenameLaws.{seen-number}
use Rattle.rename_judge.proofs.counts.way_falls.Goals as goal

pub can_fall-requires : goal.can_fall-requires
can_fall-requires c = (c.requires.0, seen-number _ _ _ c.in-Ok-Some.t (search rules) c.requires.1)
