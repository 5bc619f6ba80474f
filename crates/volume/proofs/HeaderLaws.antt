-- The records are those of FreeBSD's fs.h: each field that is read or written stands where the header's struct has it. Assumes nothing.
use mathlib.Core.Path.{◌≡◌, refl, sym}
use mathlib.Core.List.{List}
use Prim.Native.Nat.{ℕ, ◌+◌, ◌*◌, ◌%◌}
use Rattle.field.specs.declared.Order.{Order}
use Rattle.field.specs.declared.Order.TheVariants.{Little}
use Rattle.headers.specs.Layout.{Designator, member, ◌‣◌}
use Rattle.headers.specs.Fs.{fs, cg, SBLOCK_UFS2}
use Rattle.headers.specs.Macros.{Sizes, INOPB, cgtod, ino_to_fsba, ino_to_fsbo}
use Rattle.headers.specs.Read.{field_at, put_field}
use Rattle.headers.proofs.MacroLaws.{ino_place, cgtod-place}
use Rattle.volume.specs.declared.Geometry.{Geometry}
use Rattle.volume.specs.declared.Count.{Count}
use Rattle.volume.specs.declared.Count.TheVariants.{Nbfree, Nifree, Nffree}
use Rattle.volume.specs.Volume.{sb_at, geometry_of, magic_at, byte_at, cg_at, inode_at, group_magic_at, group_of, count_place, count_at, put_count, total_place, total_at, put_total}

-- SBLOCK_UFS2
pub superblock-place : sb_at ≡ SBLOCK_UFS2
superblock-place = refl

-- ---- reading

pub geometry_header : (img : List ℕ)
    → geometry_of img
    ≡ record {
      order = Little;
      sblkno = field_at Little fs (member "fs_sblkno") sb_at img;
      cblkno = field_at Little fs (member "fs_cblkno") sb_at img;
      iblkno = field_at Little fs (member "fs_iblkno") sb_at img;
      dblkno = field_at Little fs (member "fs_dblkno") sb_at img;
      ncg = field_at Little fs (member "fs_ncg") sb_at img;
      bsize = field_at Little fs (member "fs_bsize") sb_at img;
      fsize = field_at Little fs (member "fs_fsize") sb_at img;
      frag = field_at Little fs (member "fs_frag") sb_at img;
      ipg = field_at Little fs (member "fs_ipg") sb_at img;
      fpg = field_at Little fs (member "fs_fpg") sb_at img;
    }
unfolding geometry_of field_at
geometry_header img = refl

module _ (o : Order) (at : ℕ) (img : List ℕ) where
  pub magic-header : magic_at o at img ≡ field_at o fs (member "fs_magic") at img
  unfolding magic_at field_at
  magic-header = refl

  pub group-magic-header : group_magic_at o at img ≡ field_at o cg (member "cg_magic") at img
  unfolding group_magic_at field_at
  group-magic-header = refl

  pub group-header : group_of o at img ≡ record { ndblk = field_at o cg (member "cg_ndblk") at img; iusedoff = field_at o cg (member "cg_iusedoff") at img; freeoff = field_at o cg (member "cg_freeoff") at img }
  unfolding group_of field_at
  group-header = refl

-- a count's member of struct csum, and so of struct csum_total
abbrev pub csum_member : Count → Designator → Designator
csum_member Nbfree d = d ‣ "cs_nbfree"
csum_member Nifree d = d ‣ "cs_nifree"
csum_member Nffree d = d ‣ "cs_nffree"

pub count_header : (o : Order) (c : Count) (at : ℕ) (img : List ℕ) → count_at o c at img ≡ field_at o cg (csum_member c (member "cg_cs")) at img
unfolding count_at count_place field_at
count_header o Nbfree at img = refl
count_header o Nifree at img = refl
count_header o Nffree at img = refl

pub total_header : (o : Order) (c : Count) (img : List ℕ) → total_at o c img ≡ field_at o fs (csum_member c (member "fs_cstotal")) sb_at img
unfolding total_at total_place field_at
total_header o Nbfree img = refl
total_header o Nifree img = refl
total_header o Nffree img = refl

-- ---- writing

pub put_count_header : (o : Order) (c : Count) (at v : ℕ) (img : List ℕ) → put_count o c at v img ≡ put_field o cg (csum_member c (member "cg_cs")) at v img
unfolding put_count count_place put_field
put_count_header o Nbfree at v img = refl
put_count_header o Nifree at v img = refl
put_count_header o Nffree at v img = refl

pub put_total_header : (o : Order) (c : Count) (v : ℕ) (img : List ℕ) → put_total o c v img ≡ put_field o fs (csum_member c (member "fs_cstotal")) sb_at v img
unfolding put_total total_place put_field
put_total_header o Nbfree v img = refl
put_total_header o Nifree v img = refl
put_total_header o Nffree v img = refl

-- ---- places: cgtod and ino_to_fsba with ino_to_fsbo

abbrev sizes_of : Geometry → Sizes
sizes_of geo = record { bsize = geo.bsize; fsize = geo.fsize; frag = geo.frag; ipg = geo.ipg; fpg = geo.fpg; sblkno = geo.sblkno; cblkno = geo.cblkno; iblkno = geo.iblkno; dblkno = geo.dblkno }

pub group-place : (geo : Geometry) (g : ℕ) → cg_at geo g ≡ cgtod (sizes_of geo) g * geo.fsize
unfolding byte_at
group-place geo g = sym (cgtod-place (sizes_of geo) g)

-- the header counts inodes by whole blocks: the two places are one where ipg is a multiple of INOPB, as newfs makes it
pub inode-place : (geo : Geometry) (i : ℕ) → geo.fsize * geo.frag ≡ geo.bsize → geo.bsize % 256 ≡ 0 → geo.ipg % INOPB (sizes_of geo) ≡ 0
    → inode_at geo i ≡ ino_to_fsba (sizes_of geo) i * geo.fsize + ino_to_fsbo (sizes_of geo) i * 256
unfolding inode_at byte_at
inode-place geo i e m q = sym (ino_place (sizes_of geo) i e m q)
