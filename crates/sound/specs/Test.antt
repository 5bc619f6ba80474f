-- What the test has learnt on the way, and what it answers. Assumes nothing: these are definitions.
use Rattle.std.specs.Prelude.{◌≡◌, Bool, true, false, List, ℕ, ◌+◌, ◌-◌, ◌*◌, ◌/◌, ◌%◌, ◌≤◌, ◌<◌, Result, Ok, Err}
use Rattle.refusal.specs.declared.Refusal.TheVariants.{Damaged}
use Rattle.volume.specs.declared.Geometry.{Geometry}
use Rattle.volume.specs.declared.Group.{Group}
use Rattle.volume.specs.Volume.{geometry_of, byte_at}
use Rattle.bits.specs.Bits.{is_frag}
use Rattle.sound.specs.Clauses.{is_block_size, soundb}
use Rattle.refusal.specs.Refusal.{damage}
use Rattle.refusal.specs.declared.Damage.{Damage}
use Rattle.refusal.specs.declared.Refusal.{Refusal}
use Rattle.volume.specs.declared.Volume.{Volume}

-- of the sizes
pub record Sized (geo : Geometry) : Type 0 where
  pub bsize : is_block_size geo.bsize ≡ true
  pub frag : is_frag geo.frag ≡ true
  pub fsize : geo.fsize * geo.frag ≡ geo.bsize
  pub ncg : 1 ≤ geo.ncg
  pub ipg : 1 ≤ geo.ipg
  pub eights : geo.ipg % 8 ≡ 0
  pub fpg : 1 ≤ geo.fpg
  pub fpg_top : geo.fpg < 2147483648
  pub blocks : geo.fpg % geo.frag ≡ 0
  pub inodes : geo.ncg * geo.ipg < 4294967296

-- of the geometry and of the image's length n
pub record Laid (geo : Geometry) (n : ℕ) : Type 0 where
  pub low : 66912 ≤ n
  pub high : n ≤ 1073741824
  pub unit : 512 ≤ geo.fsize
  pub unit_top : geo.fsize ≤ 65536
  pub groups : 1 ≤ geo.ncg
  pub inodes : 8 ≤ geo.ipg
  pub eights : geo.ipg % 8 ≡ 0
  pub wide : 1 ≤ geo.fpg
  pub past : 66912 ≤ geo.cblkno * geo.fsize
  pub copy : geo.sblkno ≤ geo.cblkno
  pub record_first : geo.cblkno < geo.iblkno
  pub table : geo.iblkno * geo.fsize + geo.ipg * 256 ≤ geo.dblkno * geo.fsize
  pub later : geo.iblkno < geo.dblkno

-- of group g's places, in bytes: its reserved fragments lie in the image
pub record Placed (geo : Geometry) (g n : ℕ) : Type 0 where
  pub past : 66912 ≤ byte_at geo g geo.cblkno
  pub copy : byte_at geo g geo.sblkno ≤ byte_at geo g geo.cblkno
  pub area : byte_at geo g geo.cblkno + (geo.iblkno - geo.cblkno) * geo.fsize ≡ byte_at geo g geo.iblkno
  pub area_some : 512 ≤ (geo.iblkno - geo.cblkno) * geo.fsize
  pub table : byte_at geo g geo.iblkno + geo.ipg * 256 ≤ byte_at geo g geo.dblkno
  pub copy_end : byte_at geo g geo.sblkno + 1376 ≤ byte_at geo g geo.dblkno
  pub inside : byte_at geo g geo.dblkno ≤ n

-- of a group's header
pub record Headed (geo : Geometry) (frags g : ℕ) (r : Group) : Type 0 where
  pub some : 1 ≤ r.ndblk
  pub span : r.ndblk ≤ geo.fpg
  pub inside : g * geo.fpg + r.ndblk ≤ frags
  pub data_in : geo.dblkno ≤ r.ndblk
  pub used_from : 168 ≤ r.iusedoff
  pub free_from : r.iusedoff + geo.ipg / 8 ≤ r.freeoff
  pub map_end : r.freeoff + (r.ndblk + 7) / 8 ≤ (geo.iblkno - geo.cblkno) * geo.fsize

abbrev pick_taken : Bool → Result Geometry Damage → Result Geometry Damage → Result Geometry Damage
pick_taken true a b = a
pick_taken false a b = b

-- the geometry of a sound volume
unfoldable pub taken_of : List ℕ → Result Geometry Damage
taken_of img = pick_taken (soundb img) (Ok (geometry_of img)) (Err damage)

abbrev pick_opened : Bool → Result Volume Refusal → Result Volume Refusal → Result Volume Refusal
pick_opened true a b = a
pick_opened false a b = b

-- "97: not sound"; a volume is read-only or not as it was opened
unfoldable pub opened : List ℕ → Bool → Result Volume Refusal
opened img writable = pick_opened (soundb img) (Ok (record { writable = writable })) (Err Damaged)
