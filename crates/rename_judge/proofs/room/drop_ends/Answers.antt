-- `drop_ends` meets its contract. Assumes nothing.
use borrow.Author.Rules.{rules}
use Rattle.rename_judge.proofs.RenameLaws.{holds-block}
use Rattle.rename_judge.proofs.room.drop_ends.Goals as goal

pub drop_end-requires : goal.drop_end-requires
drop_end-requires c = (c.requires.0, holds-block _ _ c.in-Ok-Some.h (search rules) c.requires.1)
