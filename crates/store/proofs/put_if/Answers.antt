-- `put_if` makes the store if it is to be made, by the law of `apply_if` over the width. Assumes nothing.
use mathlib.Core.Path.{sym, ◌∙◌}
use Rattle.store.proofs.StoreLaws.{apply_if-number, apply_if_no}
use Rattle.store.proofs.put_if.Goals as goal

pub returns-then-go : goal.returns-then-go
returns-then-go g c = c.put.ensures ∙ sym (apply_if-number _ _ _ _ c.if-go.true _)

pub returns-else-go : goal.returns-else-go
returns-else-go g c = sym (apply_if_no c.if-go.false _ _)
