-- `drop_tails` meets its contract. Assumes nothing.
use borrow.Author.Rules.{rules}
use Rattle.rename_judge.proofs.RenameLaws.{holds-block}
use Rattle.rename_judge.proofs.room.drop_tails.Goals as goal

pub drop_tail-requires : goal.drop_tail-requires
drop_tail-requires c = (c.requires.0, holds-block _ _ c.in-Ok-Some.h (search rules) c.requires.1)
