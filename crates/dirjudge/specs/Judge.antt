-- 01, "Numbers given back": 27, 45 and damage of a name that is linked or unlinked, judged before any store. Assumes nothing: these are definitions.
use Rattle.std.specs.Prelude.{not, ◌||◌, List, ℕ, ◌+◌, ◌-◌, ltb, leb}
use Rattle.refusal.specs.declared.Refusal.TheVariants.{Damaged, TooBig, NotSupported}
use Rattle.store.specs.Act.{Out, got, refused}
use Rattle.volume.specs.declared.Geometry.{Geometry}
use Rattle.mapping.specs.Zones.{zone_start}
use Rattle.mapping.specs.Mapping.{per_list}
use Rattle.inode_run.specs.declared.Spot.{Spot}
use Rattle.inode_run.specs.Judge.{ask}
use Rattle.inode_grow.specs.Grow.{zones_bytes, grow_rule}
use Rattle.inode_truncate.specs.Truncate.{keep_of}
use Rattle.dirfile.specs.Seek.{Sought, here, nowhere, hurt}
use Rattle.dirwalk.specs.declared.Hit.{Hit}

-- ---- a link: where a block has room nothing grows; where none has, the directory grows by 512 bytes

-- "27, .."; damage met in looking for room is 97
abbrev pub link_end : Geometry → ℕ → Sought ℕ → Out (Unit {0})
link_end geo size (here k) = got (tt {0})
link_end geo size nowhere = ask (leb (size + 512) (zones_bytes geo)) TooBig (got (tt {0}))
link_end geo size hurt = refused Damaged

-- "45": growth of a held tail; damage on the way to that tail is 97
abbrev pub link_tail : Geometry → Spot → List ℕ → Sought ℕ → Out (Unit {0})
link_tail geo s img (here k) = got (tt {0})
link_tail geo s img nowhere = grow_rule geo s.at s.shape (s.shape.size + 512) img
link_tail geo s img hurt = got (tt {0})

-- ---- an unlink: where the record stands alone its block goes, and the directory shrinks by 512 bytes

unfoldable pub drop_end : Geometry → ℕ → Hit → Out (Unit {0})
drop_end geo size h = ask (not h.alone || leb (size - 512) (zones_bytes geo)) TooBig (got (tt {0}))

-- "45": shrink ending in the triple zone
unfoldable pub drop_tail : Geometry → ℕ → Hit → Out (Unit {0})
drop_tail geo size h = ask (not h.alone || ltb (keep_of geo (size - 512)) (zone_start (per_list geo) 3)) NotSupported (got (tt {0}))
