-- What a volume is tested for, as the sound test computes it; `specs/Sound.antt` has the page's own words. Assumes nothing: these are definitions.
use Rattle.std.specs.Prelude.{Bool, ◌&&◌, ◌||◌, List, ℕ, zero, suc, ◌+◌, ◌-◌, ◌*◌, ◌/◌, ◌%◌, length, leb, ltb, eqb}
use Rattle.field.specs.declared.Order.{Order}
use Rattle.field.specs.declared.Order.TheVariants.{Little}
use Rattle.volume.specs.declared.Geometry.{Geometry}
use Rattle.volume.specs.declared.Group.{Group}
use Rattle.volume.specs.declared.Count.{Count}
use Rattle.volume.specs.declared.Count.TheVariants.{Nbfree, Nifree, Nffree}
use Rattle.volume.specs.Volume.{sb_at, geometry_of, magic_at, byte_at, cg_at, group_magic_at, group_of, count_at, total_at}
use Rattle.bits.specs.Upto.{all}
use Rattle.bits.specs.Bits.{is_frag, bit_at, bits_are}

-- "both magics": the superblock's and the group's
abbrev pub fs_magic : ℕ
fs_magic = 0x19540119

abbrev pub cg_magic : ℕ
cg_magic = 0x090255

-- "bsize is a power of two, 4,096 to 65,536"
unfoldable pub is_block_size : ℕ → Bool
is_block_size b = eqb b 4096 || eqb b 8192 || eqb b 16384 || eqb b 32768 || eqb b 65536

-- "bsize ..; frag ..; fsize * frag = bsize; ncg >= 1; ipg is a positive multiple of 8; fpg a positive multiple of frag; .. ncg * ipg fits 32 bits" (fpg is signed: below 2^31)
unfoldable pub sizes_ok : Geometry → Bool
sizes_ok g =
    is_block_size g.bsize
    && is_frag g.frag
    && eqb (g.fsize * g.frag) g.bsize
    && leb 1 g.ncg
    && leb 1 g.ipg
    && eqb (g.ipg % 8) 0
    && leb 1 g.fpg
    && ltb g.fpg 2147483648
    && eqb (g.fpg % g.frag) 0
    && ltb (g.ncg * g.ipg) 4294967296

-- "66,912 <= cblkno * fsize; 0 <= sblkno <= cblkno < iblkno; iblkno * fsize + ipg * 256 <= dblkno * fsize"
unfoldable pub places_ok : Geometry → Bool
places_ok g =
    leb 66912 (g.cblkno * g.fsize)
    && leb g.sblkno g.cblkno
    && ltb g.cblkno g.iblkno
    && leb (g.iblkno * g.fsize + g.ipg * 256) (g.dblkno * g.fsize)

-- "1 <= ndblk <= fpg"; "every group's ndblk fragments lie in the image", which holds `frags` whole ones; "dblkno <= ndblk";
-- "iusedoff >= 168; iusedoff + ipg / 8 <= freeoff; freeoff + (ndblk / 8 rounded up) <= (iblkno - cblkno) * fsize"
unfoldable pub header_ok : Geometry → ℕ → ℕ → Group → Bool
header_ok geo frags g r =
    leb 1 r.ndblk
    && leb r.ndblk geo.fpg
    && leb (g * geo.fpg + r.ndblk) frags
    && leb geo.dblkno r.ndblk
    && leb 168 r.iusedoff
    && leb (r.iusedoff + geo.ipg / 8) r.freeoff
    && leb (r.freeoff + (r.ndblk + 7) / 8) ((geo.iblkno - geo.cblkno) * geo.fsize)

-- x, a signed number kept modulo m, is within b of zero
unfoldable pub within : ℕ → ℕ → ℕ → Bool
within b m x = leb x b || leb (m - b) x

-- p holds of nbfree, nifree and nffree
abbrev pub all_counts : (Count → Bool) → Bool
all_counts p = p Nbfree && p Nifree && p Nffree

-- "group counts are within 2^31 - 9 of zero"
unfoldable pub counts_ok : Order → ℕ → List ℕ → Bool
counts_ok o at img = all_counts (λ c. within 2147483639 4294967296 (count_at o c at img))

-- "totals within 2^62 of zero"
unfoldable pub totals_ok : Order → List ℕ → Bool
totals_ok o img = all_counts (λ c. within 4611686018427387904 18446744073709551616 (total_at o c img))

-- "fragments sblkno to dblkno - 1 of every group, and 0 to dblkno - 1 of group 0": the first of them
unfoldable pub reserved_from : Geometry → ℕ → ℕ
reserved_from geo zero = 0
reserved_from geo (suc g) = geo.sblkno

-- "map bits past ndblk are 0", and the reserved ones "are marked in use"
unfoldable pub map_ok : Geometry → ℕ → ℕ → ℕ → List ℕ → Bool
map_ok geo g at ndblk img =
    bits_are 0 img at ndblk ((ndblk + 7) / 8 * 8 - ndblk)
    && bits_are 0 img at (reserved_from geo g) (geo.dblkno - reserved_from geo g)

-- of a group whose header is right: "both magics are right in every group", the counts, the map
unfoldable pub body_ok : List ℕ → Geometry → ℕ → Group → Bool
body_ok img geo g r =
    eqb (magic_at geo.order (byte_at geo g geo.sblkno) img) fs_magic
    && eqb (group_magic_at geo.order (cg_at geo g) img) cg_magic
    && counts_ok geo.order (cg_at geo g) img
    && map_ok geo g (cg_at geo g + r.freeoff) r.ndblk img

unfoldable pub group_ok : List ℕ → Geometry → ℕ → Bool
group_ok img geo g =
    header_ok geo (length img / geo.fsize) g (group_of geo.order (cg_at geo g) img)
    && body_ok img geo g (group_of geo.order (cg_at geo g) img)

unfoldable pub groups_ok : List ℕ → Geometry → Bool
groups_ok img geo = all (group_ok img geo) geo.ncg

-- "inode 0's used bit is 1"
unfoldable pub zero_ok : List ℕ → Geometry → Bool
zero_ok img geo = eqb (bit_at img (cg_at geo 0 + (group_of geo.order (cg_at geo 0) img).iusedoff) 0) 1

-- the superblock's own magic, and the totals
unfoldable pub super_ok : List ℕ → Bool
super_ok img = eqb (magic_at Little sb_at img) fs_magic && totals_ok Little img

-- all of it, in the order that the code tests it
unfoldable pub soundb : List ℕ → Bool
soundb img =
    leb 66912 (length img)
    && (leb (length img) 1073741824
    && (sizes_ok (geometry_of img)
    && (places_ok (geometry_of img)
    && (super_ok img
    && (groups_ok img (geometry_of img)
    && zero_ok img (geometry_of img))))))
