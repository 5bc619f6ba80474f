-- 01, "The volume that is taken": where the records lie and what stands in them. Assumes nothing: these are definitions.
use Rattle.std.specs.Prelude.{List, ℕ, ◌+◌, ◌*◌, ◌/◌, ◌%◌}
use Rattle.field.specs.Field.{num, put_num}
use Rattle.field.specs.declared.Order.{Order}
use Rattle.field.specs.declared.Order.TheVariants.{Little}
use Rattle.volume.specs.declared.Geometry.{Geometry}
use Rattle.volume.specs.declared.Group.{Group}
use Rattle.volume.specs.declared.Count.{Count}
use Rattle.volume.specs.declared.Count.TheVariants.{Nbfree, Nifree, Nffree}
use Rattle.volume.specs.declared.Counts.{Counts}
use Rattle.volume.specs.declared.Totals.{Totals}

-- "superblock at byte 65,536"
abbrev pub sb_at : ℕ
sb_at = 65536

-- "Superblock, 32-bit: sblkno 8, cblkno 12, iblkno 16, dblkno 20, ncg 44, bsize 48, fsize 52, frag 56, ipg 184, fpg 188"; "little-endian"
unfoldable pub geometry_of : List ℕ → Geometry
geometry_of img = record {
  order = Little;
  sblkno = num Little 4 (sb_at + 8) img;
  cblkno = num Little 4 (sb_at + 12) img;
  iblkno = num Little 4 (sb_at + 16) img;
  dblkno = num Little 4 (sb_at + 20) img;
  ncg = num Little 4 (sb_at + 44) img;
  bsize = num Little 4 (sb_at + 48) img;
  fsize = num Little 4 (sb_at + 52) img;
  frag = num Little 4 (sb_at + 56) img;
  ipg = num Little 4 (sb_at + 184) img;
  fpg = num Little 4 (sb_at + 188) img;
}

-- "magic 1372", of the superblock or a copy of it at `at`
unfoldable pub magic_at : Order → ℕ → List ℕ → ℕ
magic_at o at img = num o 4 (at + 1372) img

-- the byte where fragment f of group g begins: the one product of places
unfoldable pub byte_at : Geometry → ℕ → ℕ → ℕ
byte_at geo g f = (g * geo.fpg + f) * geo.fsize

-- "Group record at byte (g * fpg + cblkno) * fsize"
abbrev pub cg_at : Geometry → ℕ → ℕ
cg_at geo g = byte_at geo g geo.cblkno

-- "Inode i: byte (i / ipg * fpg + iblkno) * fsize + i % ipg * 256"
unfoldable pub inode_at : Geometry → ℕ → ℕ
inode_at geo i = byte_at geo (i / geo.ipg) geo.iblkno + i % geo.ipg * 256

-- "magic 4", of the group record at `at`
unfoldable pub group_magic_at : Order → ℕ → List ℕ → ℕ
group_magic_at o at img = num o 4 (at + 4) img

-- "ndblk 20, .. iusedoff 92, freeoff 96"
unfoldable pub group_of : Order → ℕ → List ℕ → Group
group_of o at img = record { ndblk = num o 4 (at + 20) img; iusedoff = num o 4 (at + 92) img; freeoff = num o 4 (at + 96) img }

-- "nbfree 28, nifree 32, nffree 36" of the group record
unfoldable pub count_place : Count → ℕ
count_place Nbfree = 28
count_place Nifree = 32
count_place Nffree = 36

unfoldable pub count_at : Order → Count → ℕ → List ℕ → ℕ
count_at o c at img = num o 4 (at + count_place c) img

unfoldable pub put_count : Order → Count → ℕ → ℕ → List ℕ → List ℕ
put_count o c at v img = put_num o 4 (at + count_place c) v img

abbrev pub counts_of : Order → ℕ → List ℕ → Counts
counts_of o at img = record { nbfree = count_at o Nbfree at img; nifree = count_at o Nifree at img; nffree = count_at o Nffree at img }

-- "Totals, signed 64-bit: nbfree 1016, nifree 1024, nffree 1032"
unfoldable pub total_place : Count → ℕ
total_place Nbfree = 1016
total_place Nifree = 1024
total_place Nffree = 1032

unfoldable pub total_at : Order → Count → List ℕ → ℕ
total_at o c img = num o 8 (sb_at + total_place c) img

unfoldable pub put_total : Order → Count → ℕ → List ℕ → List ℕ
put_total o c v img = put_num o 8 (sb_at + total_place c) v img

abbrev pub totals_of : Order → List ℕ → Totals
totals_of o img = record { nbfree = total_at o Nbfree img; nifree = total_at o Nifree img; nffree = total_at o Nffree img }
