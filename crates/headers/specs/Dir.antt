-- dir.h: the directory record. Assumes nothing.
use Rattle.std.specs.Prelude.{ℕ, ◌+◌, ◌/◌, ◌^◌}
use Rattle.std.specs.Int.Bits.{bit_and}
use Rattle.headers.specs.Layout.{CType, struct, array, end, ◌∶◌⨾◌, char, uint8, uint16, uint32, roundup2}
use Rattle.headers.specs.Dinode.{IFMT}

-- struct direct; d_name has UFS_MAXNAMLEN + 1 bytes
unfoldable pub direct : CType
direct =
    struct (
    "d_ino" ∶ uint32 ⨾
    "d_reclen" ∶ uint16 ⨾
    "d_type" ∶ uint8 ⨾
    "d_namlen" ∶ uint8 ⨾
    "d_name" ∶ array char 256 ⨾
    end)

-- dir.h: DIRBLKSIZ, DEV_BSIZE
abbrev pub DIRBLKSIZ : ℕ
DIRBLKSIZ = 512

-- dir.h: DIRECTSIZ(namlen) = (offsetof(struct direct, d_name) + namlen + 1 + 3) & ~3; it has room for a NUL, which 01's smallest length has not
unfoldable pub DIRECTSIZ : ℕ → ℕ
unfolding roundup2
DIRECTSIZ n = roundup2 (8 + n + 1) 4

-- dir.h: the file types in d_type
abbrev pub DT_UNKNOWN : ℕ
DT_UNKNOWN = 0

abbrev pub DT_FIFO : ℕ
DT_FIFO = 1

abbrev pub DT_CHR : ℕ
DT_CHR = 2

abbrev pub DT_DIR : ℕ
DT_DIR = 4

abbrev pub DT_BLK : ℕ
DT_BLK = 6

abbrev pub DT_REG : ℕ
DT_REG = 8

abbrev pub DT_LNK : ℕ
DT_LNK = 10

abbrev pub DT_SOCK : ℕ
DT_SOCK = 12

abbrev pub DT_WHT : ℕ
DT_WHT = 14

-- dir.h: IFTODT(mode) = (mode & 0170000) >> 12
unfoldable pub IFTODT : ℕ → ℕ
IFTODT mode = bit_and mode IFMT / 2 ^ 12
