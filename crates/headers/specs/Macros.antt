-- fs.h's macros that 01 leans on, over the sizes of a volume; bsize, fsize and frag are powers of two, so that a shift is a division and a mask a remainder. Assumes nothing.
use Rattle.std.specs.Prelude.{ℕ, ◌+◌, ◌*◌, ◌/◌, ◌%◌}
use Rattle.headers.specs.Layout.{sizeof, roundup2}
use Rattle.headers.specs.Fs.{ufs2_daddr}
use Rattle.headers.specs.Dinode.{ufs2_dinode}

-- the members of struct fs that the macros read
pub record Sizes : Type 0 where
  pub bsize : ℕ
  pub fsize : ℕ
  pub frag : ℕ
  pub ipg : ℕ
  pub fpg : ℕ
  pub sblkno : ℕ
  pub cblkno : ℕ
  pub iblkno : ℕ
  pub dblkno : ℕ

-- INOPB(fs), inodes of a block: fs_bsize / sizeof(struct ufs2_dinode)
unfoldable pub INOPB : Sizes → ℕ
unfolding sizeof ufs2_dinode
INOPB fs = fs.bsize / sizeof ufs2_dinode

-- NINDIR(fs), addresses of a block: fs_bsize / sizeof(ufs2_daddr_t)
unfoldable pub NINDIR : Sizes → ℕ
unfolding sizeof
NINDIR fs = fs.bsize / sizeof ufs2_daddr

-- cgbase(fs, c) = fs_fpg * c
unfoldable pub cgbase : Sizes → ℕ → ℕ
cgbase fs c = fs.fpg * c

-- cgstart(fs, c) = cgbase(fs, c) on UFS2
unfoldable pub cgstart : Sizes → ℕ → ℕ
unfolding cgbase
cgstart fs c = cgbase fs c

-- cgsblock(fs, c) = cgstart(fs, c) + fs_sblkno
unfoldable pub cgsblock : Sizes → ℕ → ℕ
unfolding cgstart
cgsblock fs c = cgstart fs c + fs.sblkno

-- cgtod(fs, c) = cgstart(fs, c) + fs_cblkno
unfoldable pub cgtod : Sizes → ℕ → ℕ
unfolding cgstart
cgtod fs c = cgstart fs c + fs.cblkno

-- cgimin(fs, c) = cgstart(fs, c) + fs_iblkno
unfoldable pub cgimin : Sizes → ℕ → ℕ
unfolding cgstart
cgimin fs c = cgstart fs c + fs.iblkno

-- cgdmin(fs, c) = cgstart(fs, c) + fs_dblkno
unfoldable pub cgdmin : Sizes → ℕ → ℕ
unfolding cgstart
cgdmin fs c = cgstart fs c + fs.dblkno

-- blkstofrags(fs, blks) = blks << fs_fragshift
unfoldable pub blkstofrags : Sizes → ℕ → ℕ
blkstofrags fs blks = blks * fs.frag

-- fragnum(fs, fsb) = fsb & (fs_frag - 1)
unfoldable pub fragnum : Sizes → ℕ → ℕ
fragnum fs fsb = fsb % fs.frag

-- blknum(fs, fsb) = fsb & ~(fs_frag - 1)
unfoldable pub blknum : Sizes → ℕ → ℕ
blknum fs fsb = fsb / fs.frag * fs.frag

-- numfrags(fs, loc) = loc >> fs_fshift
unfoldable pub numfrags : Sizes → ℕ → ℕ
numfrags fs loc = loc / fs.fsize

-- lblkno(fs, loc) = loc >> fs_bshift
unfoldable pub lblkno : Sizes → ℕ → ℕ
lblkno fs loc = loc / fs.bsize

-- blkoff(fs, loc) = loc & fs_qbmask
unfoldable pub blkoff : Sizes → ℕ → ℕ
blkoff fs loc = loc % fs.bsize

-- blkroundup(fs, size) = (size + fs_qbmask) & fs_bmask
unfoldable pub blkroundup : Sizes → ℕ → ℕ
unfolding roundup2
blkroundup fs size = roundup2 size fs.bsize

-- fragroundup(fs, size) = (size + fs_qfmask) & fs_fmask
unfoldable pub fragroundup : Sizes → ℕ → ℕ
unfolding roundup2
fragroundup fs size = roundup2 size fs.fsize

-- ino_to_cg(fs, x) = x / fs_ipg
unfoldable pub ino_to_cg : Sizes → ℕ → ℕ
ino_to_cg fs x = x / fs.ipg

-- ino_to_fsba(fs, x) = cgimin(fs, ino_to_cg(fs, x)) + blkstofrags(fs, (x % fs_ipg) / INOPB(fs))
unfoldable pub ino_to_fsba : Sizes → ℕ → ℕ
unfolding cgimin ino_to_cg blkstofrags INOPB
ino_to_fsba fs x = cgimin fs (ino_to_cg fs x) + blkstofrags fs (x % fs.ipg / INOPB fs)

-- ino_to_fsbo(fs, x) = x % INOPB(fs)
unfoldable pub ino_to_fsbo : Sizes → ℕ → ℕ
unfolding INOPB
ino_to_fsbo fs x = x % INOPB fs
