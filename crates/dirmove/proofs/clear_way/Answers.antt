-- `clear_way` meets its contract. Assumes nothing.
use borrow.Author.Rules.{rules}
use mathlib.Core.Path.{◌∙◌}
use Rattle.dirmove.proofs.MoveLaws.{way-cleared, way-free}
use Rattle.dirmove.proofs.clear_way.Goals as goal

pub returns-then-clears : goal.returns-then-clears
returns-then-clears c = c.take_name.ensures ∙ way-cleared _ _ _ _ c.if-clears.true

pub returns : goal.returns
returns c = way-free _ _ _ _ c.if-clears.false
