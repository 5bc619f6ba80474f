-- 01, "Inodes and mapping": whether a file may grow. Assumes nothing: these are definitions.
use Rattle.std.specs.Prelude.{Bool, not, ◌&&◌, List, ℕ, ◌*◌, ltb, Result, Ok, Err}
use Rattle.refusal.specs.declared.Refusal.TheVariants.{NotSupported, Damaged}
use Rattle.store.specs.Act.{Out, got, refused}
use Rattle.volume.specs.declared.Geometry.{Geometry}
use Rattle.inode.specs.declared.Shape.{Shape}
use Rattle.inode.specs.Size.{pick, extent_of}
use Rattle.inode.specs.Shape.{sized, in_place}
use Rattle.mapping.specs.declared.Mapped.{Mapped}
use Rattle.mapping.specs.Zones.{zones_end}
use Rattle.mapping.specs.Mapping.{per_list, mapped}
use Rattle.refusal.specs.declared.Refusal.{Refusal}

-- the first byte past the triple zone
unfoldable pub zones_bytes : Geometry → ℕ
zones_bytes geo = zones_end (per_list geo) * geo.bsize

-- how many fragments the last block of a file of size s holds once the file has grown to `new`
unfoldable pub tail_then : Geometry → ℕ → ℕ → ℕ
tail_then geo s new = pick (ltb (extent_of geo s).blocks (extent_of geo new).blocks) geo.frag (extent_of geo new).frags

-- "fewer than frag fragments, so that it needs more of them"
unfoldable pub tail_short : Geometry → ℕ → ℕ → Bool
tail_short geo s new = ltb s new && ltb 0 (extent_of geo s).frags && ltb (extent_of geo s).frags geo.frag && ltb (extent_of geo s).frags (tail_then geo s new)

-- "Growth of a tail that has an address .. is 45"; damage on the way to it is 97
abbrev pub tail_held : Mapped → Out (Unit {0})
tail_held (Mapped.At a) = refused NotSupported
tail_held Mapped.Hole = got (tt {0})
tail_held Mapped.Bad = refused Damaged
tail_held Mapped.Past = refused Damaged

-- of the inode of that shape whose record is at `at`; one that has no size or no addresses holds no tail
unfoldable pub grow_rule : Geometry → ℕ → Shape → ℕ → List ℕ → Out (Unit {0})
grow_rule geo at s new img =
    pick (sized s && not (in_place s) && tail_short geo s.size new) (tail_held (mapped geo at img (extent_of geo s.size).blocks)) (got (tt {0}))

-- the code's answer
abbrev pub growth_out : Result (Unit {0}) Refusal → Out (Unit {0})
growth_out (Ok u) = got (tt {0})
growth_out (Err e) = refused e
