-- What inner functions rest on: the part of soundness that no store of a call breaks, and where things then lie. Assumes nothing: these are definitions.
use Rattle.std.specs.Prelude.{◌≡◌, Bool, true, ◌&&◌, ◌||◌, List, ◌⊎◌, ℕ, ◌+◌, ◌-◌, ◌*◌, ◌/◌, ◌%◌, ◌≤◌, ◌<◌, length, leb, ltb}
use Rattle.volume.specs.declared.Geometry.{Geometry}
use Rattle.volume.specs.declared.Group.{Group}
use Rattle.volume.specs.Volume.{sb_at, geometry_of, byte_at, cg_at, inode_at}
use Rattle.sound.specs.Clauses.{reserved_from}
use Rattle.sound.specs.Sound.{group_at, free_at, used_at, free_bit, used_bit, Reserved}
use Rattle.sound.specs.Test.{Sized, Laid, Headed}

-- fragment f of group g is never free: past the group's end, or reserved
abbrev pub Never : Geometry → ℕ → List ℕ → ℕ → Type 0
Never geo g img f = (((group_at geo g img).ndblk ≤ f) × (f < ((group_at geo g img).ndblk + 7) / 8 * 8)) ⊎ Reserved geo g f

pub record Frame (geo : Geometry) (img : List ℕ) : Type 0 where
  pub same : geo ≡ geometry_of img
  pub sizes : Sized geo
  pub laid : Laid geo (length img)
  pub head : (g : ℕ) → g < geo.ncg → Headed geo (length img / geo.fsize) g (group_at geo g img)
  pub never : (g : ℕ) → g < geo.ncg → (f : ℕ) → Never geo g img f → free_bit geo g img f ≡ 0
  pub zero : used_bit geo 0 img 0 ≡ 1

-- where the parts of group g lie, in order: the record with its two maps, the inodes, the data
pub record Spots (geo : Geometry) (img : List ℕ) (g : ℕ) : Type 0 where
  pub first : byte_at geo g 0 ≤ cg_at geo g
  pub past : 66912 ≤ cg_at geo g
  pub counts : cg_at geo g + 168 ≤ used_at geo g img
  pub used_end : used_at geo g img + geo.ipg / 8 ≤ free_at geo g img
  pub free_end : free_at geo g img + ((group_at geo g img).ndblk + 7) / 8 ≤ byte_at geo g geo.iblkno
  pub table : byte_at geo g geo.iblkno + geo.ipg * 256 ≤ byte_at geo g geo.dblkno
  pub reserved : geo.dblkno ≤ (group_at geo g img).ndblk
  pub data_end : byte_at geo g geo.dblkno ≤ byte_at geo g (group_at geo g img).ndblk
  pub span : byte_at geo g (group_at geo g img).ndblk ≤ byte_at geo g geo.fpg
  pub inside : byte_at geo g (group_at geo g img).ndblk ≤ length img
  pub small : length img ≤ 1073741824

-- the m bytes from b lie outside the n from a
abbrev pub Outside : ℕ → ℕ → ℕ → ℕ → Type 0
Outside a n b m = (b + m ≤ a) ⊎ (a + n ≤ b)

-- "A run that touches a reserved fragment or is not within one group's ndblk is 97": one that is neither
pub record RunOk (geo : Geometry) (img : List ℕ) (a n : ℕ) : Type 0 where
  pub group : a / geo.fpg < geo.ncg
  pub within : a % geo.fpg + n ≤ (group_at geo (a / geo.fpg) img).ndblk
  pub apart : (a % geo.fpg + n ≤ reserved_from geo (a / geo.fpg)) ⊎ (geo.dblkno ≤ a % geo.fpg)

-- the same as a test: of the n fragments from f of group g, and of those from the address a
unfoldable pub place_okb : Geometry → List ℕ → ℕ → ℕ → ℕ → Bool
place_okb geo img g f n = leb (f + n) (group_at geo g img).ndblk && (leb (f + n) (reserved_from geo g) || leb geo.dblkno f)

unfoldable pub run_okb : Geometry → List ℕ → ℕ → ℕ → Bool
run_okb geo img a n = ltb (a / geo.fpg) geo.ncg && place_okb geo img (a / geo.fpg) (a % geo.fpg) n

-- r is group g's record, and where its parts lie
pub record GroupIs (geo : Geometry) (img : List ℕ) (g : ℕ) (r : Group) : Type 0 where
  pub is : r ≡ group_at geo g img
  pub ndblk : r.ndblk ≡ (group_at geo g img).ndblk
  pub iusedoff : r.iusedoff ≡ (group_at geo g img).iusedoff
  pub freeoff : r.freeoff ≡ (group_at geo g img).freeoff
  pub spots : Spots geo img g

-- r is where inode i's record begins: inside its group's table, and so in the image
pub record InodeIs (geo : Geometry) (img : List ℕ) (i r : ℕ) : Type 0 where
  pub is : r ≡ inode_at geo i
  pub group : i / geo.ipg < geo.ncg
  pub first : byte_at geo (i / geo.ipg) geo.iblkno ≤ r
  pub last : r + 256 ≤ byte_at geo (i / geo.ipg) geo.dblkno
  pub inside : r + 256 ≤ length img
  pub small : length img ≤ 1073741824
