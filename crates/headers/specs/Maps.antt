-- The maps of a cylinder group: the bit macros of param.h, and ffs_subr.c's rules for the fragments of a block, mask by mask. Assumes nothing.
use Rattle.std.specs.Prelude.{ℕ, ◌-◌, ◌*◌, ◌/◌, ◌%◌, ◌^◌, Bool, not, List, eqb, get_or, set}
use Rattle.std.specs.Int.Bits.{bit_and, bit_or}

-- param.h: NBBY, the bits of a byte
abbrev pub NBBY : ℕ
NBBY = 8

-- C: x << s and x >> s
infixl 65 ◌<<◌ ◌>>◌
abbrev pub ◌<<◌ : ℕ → ℕ → ℕ
x << s = x * 2 ^ s

abbrev pub ◌>>◌ : ℕ → ℕ → ℕ
x >> s = x / 2 ^ s

-- C: (x & mask) == mask, (x & mask) == 0
abbrev pub holds : ℕ → ℕ → Bool
holds x mask = eqb (bit_and x mask) mask

abbrev pub lacks : ℕ → ℕ → Bool
lacks x mask = eqb (bit_and x mask) 0

-- C: cp[k] |= mask, and cp[k] &= ~mask on bytes
abbrev pub or_into : List ℕ → ℕ → ℕ → List ℕ
or_into cp k mask = set cp k (bit_or (get_or cp k 0) mask)

abbrev pub clear_in : List ℕ → ℕ → ℕ → List ℕ
clear_in cp k mask = set cp k (bit_and (get_or cp k 0) (0xff - mask))

-- param.h: isset(a, i) = a[i / NBBY] & (1 << (i % NBBY))
unfoldable pub isset : List ℕ → ℕ → Bool
isset a i = not (lacks (get_or a (i / NBBY) 0) (1 << (i % NBBY)))

-- param.h: setbit(a, i) = a[i / NBBY] |= 1 << (i % NBBY)
unfoldable pub setbit : List ℕ → ℕ → List ℕ
setbit a i = or_into a (i / NBBY) (1 << (i % NBBY))

-- param.h: clrbit(a, i) = a[i / NBBY] &= ~(1 << (i % NBBY))
unfoldable pub clrbit : List ℕ → ℕ → List ℕ
clrbit a i = clear_in a (i / NBBY) (1 << (i % NBBY))

-- fs_frag, the fragments of a block: the four cases of ffs_subr.c's switches
pub data Frag : Type 0 where
  eight four two one : Frag

unfoldable pub frags : Frag → ℕ
frags eight = 8
frags four = 4
frags two = 2
frags one = 1

-- ffs_subr.c: ffs_isblock(fs, cp, h), all fragments of block h are set
unfoldable pub isblock : Frag → List ℕ → ℕ → Bool
isblock eight cp h = eqb (get_or cp h 0) 0xff
isblock four cp h = holds (get_or cp (h >> 1) 0) (0x0f << (bit_and h 0x1 << 2))
isblock two cp h = holds (get_or cp (h >> 2) 0) (0x03 << (bit_and h 0x3 << 1))
isblock one cp h = holds (get_or cp (h >> 3) 0) (0x01 << bit_and h 0x7)

-- ffs_subr.c: ffs_isfreeblock(fs, cp, h), none is
unfoldable pub isfreeblock : Frag → List ℕ → ℕ → Bool
isfreeblock eight cp h = eqb (get_or cp h 0) 0
isfreeblock four cp h = lacks (get_or cp (h >> 1) 0) (0x0f << (bit_and h 0x1 << 2))
isfreeblock two cp h = lacks (get_or cp (h >> 2) 0) (0x03 << (bit_and h 0x3 << 1))
isfreeblock one cp h = lacks (get_or cp (h >> 3) 0) (0x01 << bit_and h 0x7)

-- ffs_subr.c: ffs_clrblock(fs, cp, h)
unfoldable pub clrblock : Frag → List ℕ → ℕ → List ℕ
clrblock eight cp h = set cp h 0
clrblock four cp h = clear_in cp (h >> 1) (0x0f << (bit_and h 0x1 << 2))
clrblock two cp h = clear_in cp (h >> 2) (0x03 << (bit_and h 0x3 << 1))
clrblock one cp h = clear_in cp (h >> 3) (0x01 << bit_and h 0x7)

-- ffs_subr.c: ffs_setblock(fs, cp, h)
unfoldable pub setblock : Frag → List ℕ → ℕ → List ℕ
setblock eight cp h = set cp h 0xff
setblock four cp h = or_into cp (h >> 1) (0x0f << (bit_and h 0x1 << 2))
setblock two cp h = or_into cp (h >> 2) (0x03 << (bit_and h 0x3 << 1))
setblock one cp h = or_into cp (h >> 3) (0x01 << bit_and h 0x7)
