-- `size_then` meets its contract. Assumes nothing.
use borrow.Author.Rules.{rules}
use Rattle.rename_judge.proofs.RenameLaws.{holds-block}
use Rattle.rename_judge.proofs.room.size_then.Goals as goal

pub overflow_sub-result : goal.overflow_sub-result
overflow_sub-result c = holds-block _ _ c.in-Ok-Some.h (search rules) c.requires
