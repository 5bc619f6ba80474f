-- `source_falls` meets its contract. Assumes nothing.
use borrow.Author.Rules.{rules}
use Rattle.rename_judge.proofs.RenameLaws.{seen-number}
use Rattle.rename_judge.proofs.counts.source_falls.Goals as goal

pub links_of-requires : goal.links_of-requires
links_of-requires c = (c.requires.0, seen-number _ _ _ c.in-Ok-Some.w (search rules) c.requires.1)
