-- 01: "A volume is sound when:", sentence by sentence, in the page's order. Assumes nothing: these are definitions.
use Rattle.std.specs.Prelude.{◌≡◌, List, ◌⊎◌, ℕ, ◌+◌, ◌-◌, ◌*◌, ◌/◌, ◌%◌, ◌^◌, ◌≤◌, ◌<◌, length, nat_abs}
use Rattle.volume.specs.declared.Geometry.{Geometry}
use Rattle.volume.specs.declared.Group.{Group}
use Rattle.volume.specs.declared.Count.{Count}
use Rattle.volume.specs.Volume.{sb_at, geometry_of, magic_at, byte_at, cg_at, group_magic_at, group_of, count_at, total_at}
use Rattle.volume.specs.Signed.{signed}
use Rattle.bits.specs.Bits.{bit_at}
use Rattle.sound.specs.Clauses.{fs_magic, cg_magic}

-- a group's record
abbrev pub group_at : Geometry → ℕ → List ℕ → Group
group_at geo g img = group_of geo.order (cg_at geo g) img

-- where a group's maps begin, and their bits
abbrev pub free_at : Geometry → ℕ → List ℕ → ℕ
free_at geo g img = cg_at geo g + (group_at geo g img).freeoff

abbrev pub used_at : Geometry → ℕ → List ℕ → ℕ
used_at geo g img = cg_at geo g + (group_at geo g img).iusedoff

abbrev pub free_bit : Geometry → ℕ → List ℕ → ℕ → ℕ
free_bit geo g img f = bit_at img (free_at geo g img) f

abbrev pub used_bit : Geometry → ℕ → List ℕ → ℕ → ℕ
used_bit geo g img i = bit_at img (used_at geo g img) i

-- "fragments sblkno to dblkno - 1 of every group, and 0 to dblkno - 1 of group 0 .. (the reserved ones)"
abbrev pub Reserved : Geometry → ℕ → ℕ → Type 0
Reserved geo g f = (f < geo.dblkno) × ((g ≡ 0) ⊎ (geo.sblkno ≤ f))

-- "the image holds 66,912 to 1,073,741,824 bytes, and both magics are right in every group"
pub record Magics (geo : Geometry) (img : List ℕ) : Type 0 where
  pub least : 66912 ≤ length img
  pub most : length img ≤ 1073741824
  pub super : magic_at geo.order sb_at img ≡ fs_magic
  pub copies : (g : ℕ) → g < geo.ncg → magic_at geo.order (byte_at geo g geo.sblkno) img ≡ fs_magic
  pub groups : (g : ℕ) → g < geo.ncg → group_magic_at geo.order (cg_at geo g) img ≡ cg_magic

-- "bsize is a power of two, 4,096 to 65,536; frag is 1, 2, 4 or 8; fsize * frag = bsize; ncg >= 1; ipg is a positive multiple of 8;
-- fpg a positive multiple of frag; 1 <= ndblk <= fpg; ncg * ipg fits 32 bits"
pub record SizesRight (geo : Geometry) (img : List ℕ) : Type 0 where
  pub bsize : (k : ℕ) × (geo.bsize ≡ 2 ^ k) × (4096 ≤ geo.bsize) × (geo.bsize ≤ 65536)
  pub frag : (geo.frag ≡ 1) ⊎ ((geo.frag ≡ 2) ⊎ ((geo.frag ≡ 4) ⊎ (geo.frag ≡ 8)))
  pub fsize : geo.fsize * geo.frag ≡ geo.bsize
  pub ncg : 1 ≤ geo.ncg
  pub ipg : (0 < geo.ipg) × (geo.ipg % 8 ≡ 0)
  pub fpg : (0 < geo.fpg) × (geo.fpg < 2 ^ 31) × (geo.fpg % geo.frag ≡ 0)
  pub ndblk : (g : ℕ) → g < geo.ncg → (1 ≤ (group_at geo g img).ndblk) × ((group_at geo g img).ndblk ≤ geo.fpg)
  pub inodes : geo.ncg * geo.ipg < 2 ^ 32

-- "every group's ndblk fragments lie in the image; 66,912 <= cblkno * fsize; 0 <= sblkno <= cblkno < iblkno;
-- iblkno * fsize + ipg * 256 <= dblkno * fsize; dblkno <= ndblk"
pub record PlacesRight (geo : Geometry) (img : List ℕ) : Type 0 where
  pub inside : (g : ℕ) → g < geo.ncg → byte_at geo g (group_at geo g img).ndblk ≤ length img
  pub past : 66912 ≤ geo.cblkno * geo.fsize
  pub copy : geo.sblkno ≤ geo.cblkno
  pub group : geo.cblkno < geo.iblkno
  pub table : geo.iblkno * geo.fsize + geo.ipg * 256 ≤ geo.dblkno * geo.fsize
  pub data_in : (g : ℕ) → g < geo.ncg → geo.dblkno ≤ (group_at geo g img).ndblk

-- "iusedoff >= 168; iusedoff + ipg / 8 <= freeoff; freeoff + (ndblk / 8 rounded up) <= (iblkno - cblkno) * fsize"
pub record MapsPlaced (geo : Geometry) (g : ℕ) (r : Group) : Type 0 where
  pub used : 168 ≤ r.iusedoff
  pub free : r.iusedoff + geo.ipg / 8 ≤ r.freeoff
  pub ended : r.freeoff + (r.ndblk + 7) / 8 ≤ (geo.iblkno - geo.cblkno) * geo.fsize

-- "map bits past ndblk are 0; fragments .. (the reserved ones) .. are marked in use"
pub record MapRight (geo : Geometry) (g : ℕ) (img : List ℕ) : Type 0 where
  pub past : (f : ℕ) → (group_at geo g img).ndblk ≤ f → f < ((group_at geo g img).ndblk + 7) / 8 * 8 → free_bit geo g img f ≡ 0
  pub reserved : (f : ℕ) → Reserved geo g f → free_bit geo g img f ≡ 0

-- "inode 0's used bit is 1; group counts are within 2^31 - 9 of zero and totals within 2^62 of zero"
pub record CountsRight (geo : Geometry) (img : List ℕ) : Type 0 where
  pub zero : used_bit geo 0 img 0 ≡ 1
  pub counts : (g : ℕ) → g < geo.ncg → (c : Count) → nat_abs (signed 4 (count_at geo.order c (cg_at geo g) img)) ≤ 2 ^ 31 - 9
  pub totals : (c : Count) → nat_abs (signed 8 (total_at geo.order c img)) ≤ 2 ^ 62

pub record SoundWith (geo : Geometry) (img : List ℕ) : Type 0 where
  pub magics : Magics geo img
  pub sizes : SizesRight geo img
  pub places : PlacesRight geo img
  pub maps : (g : ℕ) → g < geo.ncg → MapsPlaced geo g (group_at geo g img)
  pub bits : (g : ℕ) → g < geo.ncg → MapRight geo g img
  pub counts : CountsRight geo img

abbrev pub Sound : List ℕ → Type 0
Sound img = SoundWith (geometry_of img) img
