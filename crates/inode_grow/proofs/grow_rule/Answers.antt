-- `grow_rule` meets its contract. Assumes nothing.
use mathlib.Core.Path.{sym, ap, ◌∙◌}
use Rattle.inode_grow.specs.Grow.{tail_held}
use Rattle.inode_grow.proofs.GrowLaws.{grow-free, grow-asks}
use Rattle.inode_grow.proofs.grow_rule.Goals as goal

pub returns-then-not-asks_more : goal.returns-then-not-asks_more
returns-then-not-asks_more c = grow-free _ _ _ _ _ (sym c.asks_more.ensures ∙ c.if-not-asks_more.true)

pub returns-in-At : goal.returns-in-At
returns-in-At c =
    sym (ap tail_held c.in-At.is) ∙ grow-asks _ _ _ _ _ (sym c.asks_more.ensures ∙ c.if-not-asks_more.false) _
    c.size_in-e.ensures.0 _ c.resolve_block.ensures

pub returns-in-Hole : goal.returns-in-Hole
returns-in-Hole c =
    sym (ap tail_held c.in-Hole.is) ∙ grow-asks _ _ _ _ _ (sym c.asks_more.ensures ∙ c.if-not-asks_more.false) _
    c.size_in-e.ensures.0 _ c.resolve_block.ensures

pub returns-in-Bad : goal.returns-in-Bad
returns-in-Bad c =
    sym (ap tail_held c.in-Bad.is) ∙ grow-asks _ _ _ _ _ (sym c.asks_more.ensures ∙ c.if-not-asks_more.false) _
    c.size_in-e.ensures.0 _ c.resolve_block.ensures

pub returns-in-Past : goal.returns-in-Past
returns-in-Past c =
    sym (ap tail_held c.in-Past.is) ∙ grow-asks _ _ _ _ _ (sym c.asks_more.ensures ∙ c.if-not-asks_more.false) _
    c.size_in-e.ensures.0 _ c.resolve_block.ensures
