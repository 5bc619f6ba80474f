-- dinode.h: the inode of UFS2. Assumes nothing.
use Rattle.std.specs.Prelude.{ℕ, ◌+◌, ◌*◌}
use Rattle.headers.specs.Layout.{CType, struct, array, end, ◌∶◌⨾◌, int16, int32, uint16, uint32, uint64, sizeof}
use Rattle.headers.specs.Fs.{ufs_time, ufs2_daddr}

-- dinode.h: how many addresses of the attribute area, direct and indirect
abbrev pub UFS_NXADDR : ℕ
UFS_NXADDR = 2

abbrev pub UFS_NDADDR : ℕ
UFS_NDADDR = 12

abbrev pub UFS_NIADDR : ℕ
UFS_NIADDR = 3

-- struct ufs2_dinode; di_shortlink, the text of a short symbolic link, shares the bytes of di_db and di_ib
unfoldable pub ufs2_dinode : CType
ufs2_dinode =
    struct (
    "di_mode" ∶ uint16 ⨾
    "di_nlink" ∶ int16 ⨾
    "di_uid" ∶ uint32 ⨾
    "di_gid" ∶ uint32 ⨾
    "di_blksize" ∶ uint32 ⨾
    "di_size" ∶ uint64 ⨾
    "di_blocks" ∶ uint64 ⨾
    "di_atime" ∶ ufs_time ⨾
    "di_mtime" ∶ ufs_time ⨾
    "di_ctime" ∶ ufs_time ⨾
    "di_birthtime" ∶ ufs_time ⨾
    "di_mtimensec" ∶ int32 ⨾
    "di_atimensec" ∶ int32 ⨾
    "di_ctimensec" ∶ int32 ⨾
    "di_birthnsec" ∶ int32 ⨾
    "di_gen" ∶ uint32 ⨾
    "di_kernflags" ∶ uint32 ⨾
    "di_flags" ∶ uint32 ⨾
    "di_extsize" ∶ uint32 ⨾
    "di_extb" ∶ array ufs2_daddr UFS_NXADDR ⨾
    "di_db" ∶ array ufs2_daddr UFS_NDADDR ⨾
    "di_ib" ∶ array ufs2_daddr UFS_NIADDR ⨾
    "di_modrev" ∶ uint64 ⨾
    "di_freelink" ∶ uint32 ⨾
    "di_ckhash" ∶ uint32 ⨾
    "di_spare" ∶ array uint32 2 ⨾
    end)

-- the size of di_shortlink: (UFS_NDADDR + UFS_NIADDR) * sizeof(ufs2_daddr_t)
unfoldable pub shortlink_size : ℕ
unfolding sizeof
shortlink_size = (UFS_NDADDR + UFS_NIADDR) * sizeof ufs2_daddr

-- dinode.h: the file types in di_mode, and their mask
abbrev pub IFMT : ℕ
IFMT = 0o170000

abbrev pub IFIFO : ℕ
IFIFO = 0o010000

abbrev pub IFCHR : ℕ
IFCHR = 0o020000

abbrev pub IFDIR : ℕ
IFDIR = 0o040000

abbrev pub IFBLK : ℕ
IFBLK = 0o060000

abbrev pub IFREG : ℕ
IFREG = 0o100000

abbrev pub IFLNK : ℕ
IFLNK = 0o120000

abbrev pub IFSOCK : ℕ
IFSOCK = 0o140000
