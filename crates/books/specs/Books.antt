-- The books of a volume: the bytes that giving out and taking back change. And what the work rests on all along. Assumes nothing: these are definitions.
use Rattle.std.specs.Prelude.{◌≡◌, List, ℕ, ◌+◌, ◌/◌, ◌<◌, length}
use Rattle.store.specs.Where.{Range}
use Rattle.volume.specs.declared.Geometry.{Geometry}
use Rattle.volume.specs.Volume.{sb_at, cg_at}
use Rattle.sound.specs.Sound.{group_at, free_at, used_at}
use Rattle.frame.specs.Frame.{Frame}

-- byte j is of a group's free map or inode map, of its counts, or of the totals
pub data Book (geo : Geometry) (img : List ℕ) (j : ℕ) : Type 0 where
  of_free : (g : ℕ) → g < geo.ncg → Range (free_at geo g img) (((group_at geo g img).ndblk + 7) / 8) j → Book geo img j
  of_used : (g : ℕ) → g < geo.ncg → Range (used_at geo g img) (geo.ipg / 8) j → Book geo img j
  of_counts : (g : ℕ) → g < geo.ncg → Range (cg_at geo g + 28) 12 j → Book geo img j
  of_totals : Range (sb_at + 1016) 24 j → Book geo img j

-- ys, with other data, inodes or books, is laid out as xs is: the work can go on
pub record Steady (geo : Geometry) (xs ys : List ℕ) : Type 0 where
  pub long : length ys ≡ length xs
  pub frame : Frame geo ys
  pub groups : (g : ℕ) → g < geo.ncg → group_at geo g ys ≡ group_at geo g xs
