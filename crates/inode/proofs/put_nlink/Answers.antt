-- `put_nlink` meets its contract. Assumes nothing.
use borrow.Author.Rules.{rules}
use mathlib.Core.Path.{sym, ◌∙◌}
use Rattle.store.proofs.StoreLaws.{apply-number}
use Rattle.inode.specs.Places.{nlink_write}
use Rattle.inode.proofs.put_nlink.Goals as goal

pub returns : goal.returns
unfolding nlink_write
returns c = c.put.ensures ∙ sym (apply-number _ _ _ _ _)
