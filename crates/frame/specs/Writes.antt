-- The writes of the calls' stores: a map byte, a count of a group, a total. Assumes nothing: these are definitions.
use Rattle.std.specs.Prelude.{List, [], ◌∷◌, ℕ, ◌+◌, ◌-◌, ◌/◌, ◌%◌, ◌^◌, get_or}
use Rattle.store.specs.Store.{Write, number}
use Rattle.volume.specs.declared.Geometry.{Geometry}
use Rattle.volume.specs.declared.Count.{Count}
use Rattle.volume.specs.Volume.{sb_at, cg_at, count_place, total_place}
use Rattle.bits.specs.Bits.{put_bits}
use Rattle.sound.specs.Sound.{free_at}

-- the map byte of group g in which the n fragments from f stand, with their bits made v
unfoldable pub map_write : ℕ → Geometry → ℕ → ℕ → ℕ → List ℕ → Write
map_write v geo g f n img =
    record { at = free_at geo g img + f / 8; bytes = put_bits v n (f % 8) (get_or img (free_at geo g img + f / 8) 0) ∷ [] }

-- a count of group g
unfoldable pub count_write : Geometry → ℕ → Count → ℕ → Write
count_write geo g c v = number geo.order 4 (cg_at geo g + count_place c) v

-- a total
unfoldable pub total_write : Geometry → Count → ℕ → Write
total_write geo c v = number geo.order 8 (sb_at + total_place c) v

-- a signed number of w bytes, kept modulo 256 ^ w, d more and d fewer
unfoldable pub up : ℕ → ℕ → ℕ → ℕ
up w x d = (x + d) % 256 ^ w

unfoldable pub down : ℕ → ℕ → ℕ → ℕ
down w x d = (x + (256 ^ w - d)) % 256 ^ w
