-- `tail_left` meets its contract. Assumes nothing.
use borrow.Author.Rules.{rules}
use Rattle.rename_judge.proofs.RenameLaws.{holds-block}
use Rattle.rename_judge.proofs.room.tail_left.Goals as goal

pub tail_after-requires : goal.tail_after-requires
tail_after-requires c = (c.requires.0.sizes, holds-block _ _ c.in-Ok-Some.h (search rules) c.requires.2)
