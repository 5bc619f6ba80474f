-- `set_block` meets its contract. Assumes nothing.
use mathlib.Core.Path.{sym, ◌∙◌}
use Rattle.inode.proofs.SizeLaws.{units}
use Rattle.mapping.proofs.ZoneLaws.{under_good}
use Rattle.inode_setblock.proofs.SetLaws.{block-under, block-past}
use Rattle.inode_setblock.proofs.set_block.Goals as goal

pub per_list-requires : goal.per_list-requires
per_list-requires c = (units _ c.requires.0.sizes).block_top

pub set_under-requires : goal.set_under-requires
set_under-requires c =
    let k = c.requires in
    let g = under_good _ _ _ _ (sym c.in-Under.is ∙ c.place_of.ensures) in
    (k.0, k.1, g.0, g.1, rw (← c.per_list.ensures.0) g.2)

pub returns-in-Under : goal.returns-in-Under
returns-in-Under c = c.set_under.ensures ∙ block-under _ _ _ _ _ _ _ c.per_list.ensures.0 _ _ (sym c.in-Under.is ∙ c.place_of.ensures)

pub returns-in-Past : goal.returns-in-Past
returns-in-Past c = block-past _ _ _ _ _ _ _ c.per_list.ensures.0 (sym c.in-Past.is ∙ c.place_of.ensures)
