-- The free map and the inode map: bits of the bytes of an image that begin at byte `at`. Assumes nothing.
use Rattle.std.specs.Prelude.{◌≡◌, Bool, true, not, ◌&&◌, ◌||◌, List, [], ◌∷◌, ℕ, ◌+◌, ◌-◌, ◌*◌, ◌/◌, ◌%◌, ◌^◌, ◌<◌, ◌≤◌, eqb, ltb, get_or, Option}
use Rattle.field.specs.Field.{put}
use Rattle.bits.specs.Upto.{all, sum, count, first}

-- 01: "frag is 1, 2, 4 or 8"
unfoldable pub is_frag : ℕ → Bool
is_frag frag = eqb frag 1 || eqb frag 2 || eqb frag 4 || eqb frag 8

-- bit b of the byte x
unfoldable pub bit : ℕ → ℕ → ℕ
bit b x = x / 2 ^ b % 2

-- 01: "Bit b of map byte k stands for fragment 8k + b of the group; 1 is free."
unfoldable pub bit_at : List ℕ → ℕ → ℕ → ℕ
bit_at img at f = bit (f % 8) (get_or img (at + f / 8) 0)

-- balloc.rs, cg_isfreefrag: fragment f is free
unfoldable pub frag_free : List ℕ → ℕ → ℕ → Bool
frag_free img at f = eqb (bit_at img at f) 1

-- bit f is 0
unfoldable pub is_clear : List ℕ → ℕ → ℕ → Bool
is_clear img at f = eqb (bit_at img at f) 0

-- the n bits from f are all v
unfoldable pub bits_are : ℕ → List ℕ → ℕ → ℕ → ℕ → Bool
bits_are v img at f n = all (λ (k : ℕ). eqb (bit_at img at (f + k)) v) n

-- 01: "A block is frag fragments starting at a multiple of frag", and "the first block whose bits are all 1": block h is free
unfoldable pub block_free : ℕ → List ℕ → ℕ → ℕ → Bool
block_free frag img at h = bits_are 1 img at (frag * h) frag

-- balloc.rs, cg_isfullblock: no fragment of block h is free
unfoldable pub block_full : ℕ → List ℕ → ℕ → ℕ → Bool
block_full frag img at h = bits_are 0 img at (frag * h) frag

-- the byte x with its n bits from s made v
unfoldable pub put_bits : ℕ → ℕ → ℕ → ℕ → ℕ
put_bits v n s x = x / 2 ^ (s + n) * 2 ^ (s + n) + v * ((2 ^ n - 1) * 2 ^ s) + x % 2 ^ s

-- the image with the n bits from f, which stand in one byte, made v
unfoldable pub put_bits_at : ℕ → List ℕ → ℕ → ℕ → ℕ → List ℕ
put_bits_at v img at f n = put (at + f / 8) (put_bits v n (f % 8) (get_or img (at + f / 8) 0) ∷ []) img

-- 01: "takes the first block whose bits are all 1", of nb blocks
unfoldable pub first_free : ℕ → List ℕ → ℕ → ℕ → Option ℕ
first_free frag img at nb = first (block_free frag img at) 0 nb

-- 01: "the lowest clear bit", of n bits
unfoldable pub first_clear : List ℕ → ℕ → ℕ → Option ℕ
first_clear img at n = first (is_clear img at) 0 n

-- 01: "nbfree is the number of aligned wholly free blocks", of nb blocks
unfoldable pub free_blocks : ℕ → List ℕ → ℕ → ℕ → ℕ
free_blocks frag img at nb = count (block_free frag img at) nb

-- the free fragments of the first n
unfoldable pub free_frags : List ℕ → ℕ → ℕ → ℕ
free_frags img at n = sum (bit_at img at) n

-- 01: "nffree the free fragments not in such a block": fragment f is free, and none of the first nb blocks is free and holds it
unfoldable pub is_loose : ℕ → List ℕ → ℕ → ℕ → ℕ → Bool
is_loose frag img at nb f = frag_free img at f && not (ltb (f / frag) nb && block_free frag img at (f / frag))

-- the loose fragments of the first n, beside nb blocks
unfoldable pub loose_frags : ℕ → List ℕ → ℕ → ℕ → ℕ → ℕ
loose_frags frag img at n nb = count (is_loose frag img at nb) n

-- the blocks from `from` to `to` stand in map byte i, the first at its first bit; the map's bytes lie below `end`
pub record InByte (frag at i from to end : ℕ) : Type 0 where
  pub frags : is_frag frag ≡ true
  pub ordered : from ≤ to
  pub first_bit : frag * from ≡ 8 * i
  pub last_bit : frag * to ≤ 8 * i + 8
  pub byte : at + i < end
