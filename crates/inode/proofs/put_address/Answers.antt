-- `put_address` meets its contract. Assumes nothing.
use borrow.Author.Rules.{rules}
use mathlib.Core.Path.{sym, ◌∙◌}
use Rattle.store.proofs.StoreLaws.{apply-number}
use Rattle.inode.specs.Places.{address_write}
use Rattle.inode.proofs.put_address.Goals as goal

pub returns : goal.returns
unfolding address_write
returns c = c.put.ensures ∙ sym (apply-number _ _ _ _ _)
