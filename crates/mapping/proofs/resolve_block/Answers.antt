-- `resolve_block` meets its contract: what `place_of` answers can be resolved. Assumes nothing.
use mathlib.Core.Path.{sym, ◌∙◌}
use Rattle.inode.proofs.SizeLaws.{units}
use Rattle.mapping.proofs.ZoneLaws.{under_good}
use Rattle.mapping.proofs.MappingLaws.{mapped-under, mapped-past}
use Rattle.mapping.proofs.resolve_block.Goals as goal

pub per_list-requires : goal.per_list-requires
per_list-requires c = (units _ c.requires.0.sizes).block_top

pub read_address-requires : goal.read_address-requires
read_address-requires c =
    (c.requires.1, (under_good _ _ _ _ (sym c.in-Under.is ∙ c.place_of.ensures)).0)

pub resolve-requires : goal.resolve-requires
resolve-requires c =
    let g = under_good _ _ _ _ (sym c.in-Under.is ∙ c.place_of.ensures) in
    (c.requires.0, g.1, rw (← c.per_list.ensures.0) g.2)

pub returns-in-Under : goal.returns-in-Under
returns-in-Under c =
    c.resolve.ensures
    ∙ mapped-under _ _ _ _ _ c.per_list.ensures.0 _ _ (sym c.in-Under.is ∙ c.place_of.ensures) _ c.read_address.ensures

pub returns-in-Past : goal.returns-in-Past
returns-in-Past c =
    mapped-past _ _ _ _ _ c.per_list.ensures.0 (sym c.in-Past.is ∙ c.place_of.ensures)
