-- 01, "Inodes and mapping": which inode is given out. Assumes nothing: these are definitions.
use Rattle.std.specs.Prelude.{ℕ, ◌+◌, ◌*◌, Bool, true, false, List, Option, Some, None}
use Rattle.volume.specs.declared.Geometry.{Geometry}
use Rattle.volume.specs.declared.Count.TheVariants.{Nifree}
use Rattle.volume.specs.Volume.{cg_at, count_at}
use Rattle.bits.specs.Upto.{pick_found, first}
use Rattle.bits.specs.Bits.{first_clear}
use Rattle.sound.specs.Sound.{used_at}
use Rattle.balloc_give.specs.Give.{positive}

-- "the lowest clear bit in the first group with nifree above zero and a clear bit": that of group g
unfoldable pub in_group : Geometry → List ℕ → ℕ → Option ℕ
in_group geo img g = pick_found (positive (count_at geo.order Nifree (cg_at geo g) img)) (first_clear img (used_at geo g img) geo.ipg) None

abbrev pub is_found : Option ℕ → Bool
is_found (Some k) = true
is_found None = false

-- group g has an inode to give
abbrev pub has_one : Geometry → List ℕ → ℕ → Bool
has_one geo img g = is_found (in_group geo img g)

-- the place found in group g
abbrev pub place_of : ℕ → Option ℕ → Option (ℕ × ℕ)
place_of g (Some k) = Some (g, k)
place_of g None = None

abbrev pub place_in : Geometry → List ℕ → Option ℕ → Option (ℕ × ℕ)
place_in geo img (Some g) = place_of g (in_group geo img g)
place_in geo img None = None

-- groups upward: the lowest clear bit of the first group that counts an inode and has one
unfoldable pub chosen : Geometry → List ℕ → Option (ℕ × ℕ)
chosen geo img = place_in geo img (first (has_one geo img) 0 geo.ncg)

-- the number of inode k of group g
unfoldable pub inode_number : Geometry → ℕ → ℕ → ℕ
inode_number geo g k = g * geo.ipg + k
