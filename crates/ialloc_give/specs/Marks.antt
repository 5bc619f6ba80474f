-- The books of inodes: a bit of a group's inode map, and the counts of free inodes. Assumes nothing: these are definitions.
use Rattle.std.specs.Prelude.{ℕ, ◌+◌, ◌/◌, ◌%◌, Bool, true, false, List, [], ◌∷◌, slice_index}
use Rattle.store.specs.Store.{Write}
use Rattle.store.specs.Act.{Act, reads, store, ◌>>=◌, ◌>>◌}
use Rattle.volume.specs.declared.Geometry.{Geometry}
use Rattle.volume.specs.declared.Count.TheVariants.{Nifree}
use Rattle.volume.specs.Volume.{cg_at, count_at, total_at}
use Rattle.bits.specs.Bits.{put_bits}
use Rattle.sound.specs.Sound.{used_at}
use Rattle.frame.specs.Writes.{count_write, total_write, up, down}

-- the byte of group g's inode map in which inode k of the group stands, with its bit made v: 1 is in use
unfoldable pub used_write : ℕ → Geometry → ℕ → ℕ → List ℕ → Write
used_write v geo g k img =
    record { at = used_at geo g img + k / 8; bytes = put_bits v 1 (k % 8) (slice_index img (used_at geo g img + k / 8)) ∷ [] }

unfoldable pub mark_used : ℕ → Geometry → ℕ → ℕ → Act (Unit {0})
mark_used v geo g k = λ img. store (used_write v geo g k img ∷ []) img

-- a count of w bytes when an inode was freed, or given out
abbrev pub counted : Bool → ℕ → ℕ → ℕ
counted true w n = up w n 1
counted false w n = down w n 1

-- the group's count, then the total
unfoldable pub count_inode : Bool → Geometry → ℕ → Act (Unit {0})
count_inode freed geo g = do
  n ← reads (count_at geo.order Nifree (cg_at geo g))
  store (count_write geo g Nifree (counted freed 4 n) ∷ [])
  t ← reads (total_at geo.order Nifree)
  store (total_write geo Nifree (counted freed 8 t) ∷ [])
