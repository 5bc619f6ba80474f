-- The macros against 01's sentences: where a group record and an inode stand, the smallest record, the type bytes, the parts of an attribute. By arithmetic and computation. Assumes nothing.
use mathlib.Core.Path.{◌≡◌, refl, sym, ap, ◌∙◌}
use mathlib.Core.Logic.{◌≢◌}
use Prim.Native.Nat.{ℕ, ◌+◌, ◌*◌, ◌/◌, ◌%◌}
use native.Mathlib.Nat.{div-add-mod', dvd_of_mod-eq-zero, mod-mod_of_dvd, mul-div_cancel}
use native.Mathlib.Omega.{arith}
use lib.Bits.{and_high}
use lib.Dec.{lit<}
use Rattle.headers.specs.Dinode.{IFIFO, IFCHR, IFDIR, IFBLK, IFREG, IFLNK, IFSOCK, shortlink_size}
use Rattle.headers.specs.Dir.{DIRECTSIZ, IFTODT, DT_FIFO, DT_CHR, DT_DIR, DT_BLK, DT_REG, DT_LNK, DT_SOCK}
use Rattle.headers.specs.Extattr.{EXTATTR_CONTENT_SIZE, content_pad, extattr_length}
use Rattle.headers.specs.Macros.{Sizes, INOPB, NINDIR, cgtod, ino_to_fsba, ino_to_fsbo, lblkno, blkoff, blknum, fragnum}

-- 01: "Group record at byte (g * fpg + cblkno) * fsize"
pub cgtod-place : (fs : Sizes) (g : ℕ) → cgtod fs g * fs.fsize ≡ (g * fs.fpg + fs.cblkno) * fs.fsize
unfolding cgtod
cgtod-place fs g = omega arith

-- 01: "With p = bsize / 8"
pub NINDIR-is : (fs : Sizes) → NINDIR fs ≡ fs.bsize / 8
unfolding NINDIR
NINDIR-is fs = refl

pub INOPB-is : (fs : Sizes) → INOPB fs ≡ fs.bsize / 256
unfolding INOPB
INOPB-is fs = refl

-- a byte of a file is in its block, a fragment in its own
pub blkoff-lblkno : (fs : Sizes) (loc : ℕ) → blkoff fs loc + lblkno fs loc * fs.bsize ≡ loc
unfolding blkoff lblkno
blkoff-lblkno fs loc = omega (arith, div-add-mod' loc fs.bsize)

pub fragnum-blknum : (fs : Sizes) (fsb : ℕ) → fragnum fs fsb + blknum fs fsb ≡ fsb
unfolding fragnum blknum
fragnum-blknum fs fsb = omega (arith, div-add-mod' fsb fs.frag)

-- 01: "Inode i: byte (i / ipg * fpg + iblkno) * fsize + i % ipg * 256"
pub ino_place : (fs : Sizes) (i : ℕ) → fs.fsize * fs.frag ≡ fs.bsize → fs.bsize % 256 ≡ 0 → fs.ipg % INOPB fs ≡ 0
    → ino_to_fsba fs i * fs.fsize + ino_to_fsbo fs i * 256 ≡ (i / fs.ipg * fs.fpg + fs.iblkno) * fs.fsize + i % fs.ipg * 256
unfolding INOPB ino_to_fsba ino_to_fsbo
ino_place fs i whole records blocks =
    let p = fs.bsize / 256 in
    let m = i % fs.ipg in
    let low : i % p ≡ m % p = sym (mod-mod_of_dvd p i (dvd_of_mod-eq-zero p blocks)) in
    let bytes : m / p * (fs.fsize * fs.frag) ≡ m / p * (p * 256) = ap (λ (b : ℕ). m / p * b) (whole ∙ omega arith) in
    omega (arith, div-add-mod' m p)

-- 01 asks of ipg only a multiple of 8: with 8 inodes a group and 16 a block the two part at inode 8, the first of group 1
abbrev pub parting_sizes : Sizes
parting_sizes =
    record { bsize = 4096; fsize = 512; frag = 8; ipg = 8; fpg = 1024; sblkno = 128; cblkno = 136; iblkno = 144; dblkno = 152 }

pub ino_parting : ino_to_fsba parting_sizes 8 * 512 + ino_to_fsbo parting_sizes 8 * 256 ≡ (8 / 8 * 1024 + 144) * 512 + 8 % 8 * 256 + 2048
unfolding ino_to_fsba ino_to_fsbo
ino_parting = refl

-- 01: "Smallest length: (8 + n + 3) with the low two bits cleared"; the header's is longer, by 4, exactly when n is a multiple of 4
pub DIRECTSIZ-same : (n : ℕ) → n % 4 ≢ 0 → DIRECTSIZ n ≡ (8 + n + 3) / 4 * 4
unfolding DIRECTSIZ
DIRECTSIZ-same n h = omega arith

pub DIRECTSIZ_longer : (n : ℕ) → n % 4 ≡ 0 → DIRECTSIZ n ≡ (8 + n + 3) / 4 * 4 + 4
unfolding DIRECTSIZ
DIRECTSIZ_longer n h = omega arith

-- the type in di_mode is its bits 12 to 15
pub IFTODT-is : (mode : ℕ) → IFTODT mode ≡ mode / 4096 % 16
unfolding IFTODT
IFTODT-is mode = rw (and_high mode 4 12) (mul-div_cancel (mode / 4096 % 16) (lit< tt))

-- a file type of di_mode and its byte in a directory record
pub record Types : Type 0 where
  pub fifo : IFTODT IFIFO ≡ DT_FIFO
  pub chr : IFTODT IFCHR ≡ DT_CHR
  pub dir : IFTODT IFDIR ≡ DT_DIR
  pub blk : IFTODT IFBLK ≡ DT_BLK
  pub reg : IFTODT IFREG ≡ DT_REG
  pub lnk : IFTODT IFLNK ≡ DT_LNK
  pub sock : IFTODT IFSOCK ≡ DT_SOCK

pub IFTODT_types : Types
unfolding IFTODT
IFTODT_types = record { fifo = refl; chr = refl; dir = refl; blk = refl; reg = refl; lnk = refl; sock = refl }

-- 01: "A symlink under 120 bytes has its text there"
pub shortlink_size_lem : shortlink_size ≡ 120
unfolding shortlink_size
shortlink_size_lem = refl

-- 01: "Attribute user "id", 5-byte value: length 24, pad 3"
pub extattr_id : (extattr_length 2 5 ≡ 24) × (content_pad 5 ≡ 3)
unfolding extattr_length
extattr_id = (refl, refl)

-- what was laid down is read back as long as it was
pub content_size : (namelength n : ℕ) → EXTATTR_CONTENT_SIZE (extattr_length namelength n) namelength (content_pad n) ≡ n
unfolding EXTATTR_CONTENT_SIZE extattr_length
content_size namelength n = omega arith

-- and the next attribute is aligned to 8
pub extattr-aligned : (namelength n : ℕ) → extattr_length namelength n % 8 ≡ 0
unfolding extattr_length
extattr-aligned namelength n = omega arith
