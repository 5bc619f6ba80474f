-- 01's worked numbers: the starred lines, one row each, and the test of a row by the definitions that the calls are promised to equal. Assumes nothing.
use Rattle.std.specs.Prelude.{Bool, true, false, ◌&&◌, List, [], ◌∷◌, ℕ, ◌*◌, ◌/◌, eqb, length, Option, Some, None}
use Rattle.field.specs.Field.{put}
use Rattle.bits.specs.Upto.{all, first}
use Rattle.bits.specs.Bits.{bit, bit_at, bits_are, block_free, first_free, put_bits, put_bits_at}
use Rattle.attrrec.specs.Encode.{attr_pad, attr_length}
use Rattle.dirblock.specs.Record.{smallest_read, smallest_new}
use Rattle.inode.specs.Size.{size_in}
use Rattle.mapping.specs.declared.Place.{Place}
use Rattle.mapping.specs.declared.Place.TheVariants.{Under, Past}
use Rattle.mapping.specs.Zones.{place_of, positions}

pub data Row : Type 0 where
  -- (Map rule alone, nothing reserved.) frag, map: the fragment where the block given begins, and the map then
  given : ℕ → List ℕ → ℕ → List ℕ → Row
  -- frag, map: "the next is 28"
  full : ℕ → List ℕ → Row
  -- map, fragment, how many come back: the map then
  back : List ℕ → ℕ → ℕ → List ℕ → Row
  -- bsize, fsize, size: its blocks and fragments
  takes : ℕ → ℕ → ℕ → ℕ → ℕ → Row
  -- bsize, index: which of the 15 addresses it leads to, and the positions in the lists under that
  leads : ℕ → ℕ → ℕ → List ℕ → Row
  -- bytes of a name: the smallest length of a record that is read, and of one that is made
  smallest : ℕ → ℕ → Row
  -- an attribute's name length and value length: its length and pad
  attribute : ℕ → ℕ → ℕ → ℕ → Row

abbrev same : List ℕ → List ℕ → Bool
same [] [] = true
same [] (y ∷ ys) = false
same (x ∷ xs) [] = false
same (x ∷ xs) (y ∷ ys) = eqb x y && same xs ys

abbrev found_at : ℕ → List ℕ → Option ℕ → ℕ → List ℕ → Bool
found_at frag map (Some h) f then = eqb (frag * h) f && same (put_bits_at 0 map 0 (frag * h) frag) then
found_at frag map None f then = false

abbrev none : Option ℕ → Bool
none (Some h) = false
none None = true

abbrev under : ℕ → Place → ℕ → List ℕ → Bool
under p (Under root level rest) k path = eqb root k && same (positions p level rest.0) path
under p Past k path = false

abbrev pub right : Row → Bool
right (given frag map f then) = found_at frag map (first_free frag map 0 (8 * length map / frag)) f then
right (full frag map) = none (first_free frag map 0 (8 * length map / frag))
right (back map f n then) = same (put_bits_at 1 map 0 f n) then
right (takes bs fs s blocks frags) = eqb (size_in bs fs s).blocks blocks && eqb (size_in bs fs s).frags frags
right (leads bs i k path) = under (bs / 8) (place_of (bs / 8) i) k path
right (smallest n l) = eqb (smallest_read n) l && eqb (smallest_new n) l
right (attribute namelen n len pad) = eqb (attr_length namelen n) len && eqb (attr_pad n) pad

abbrev pub all_right : List Row → Bool
all_right [] = true
all_right (r ∷ rs) = right r && all_right rs

-- "frag 8, map 00 ff: block 8 given, map 00 00; the next is 28. Back 2 fragments at 8: 00 03."
-- "bsize 32,768, fsize 4,096: size 1 (0,1); 4,097 (0,2); 28,673 (0,8); 32,768 (1,0)."
-- "bsize 4,096: index 11 direct; 12 first list 0; 524 second (0,0); 262,668 third (0,0,0)"
-- "Smallest length: n = 4: 12; 5: 16; 255: 264."
-- "Attribute user "id", 5-byte value: length 24, pad 3."
abbrev pub starred : List Row
starred =
    given 8 (0x00 ∷ 0xff ∷ []) 8 (0x00 ∷ 0x00 ∷ [])
    ∷ full 8 (0x00 ∷ 0x00 ∷ [])
    ∷ back (0x00 ∷ 0x00 ∷ []) 8 2 (0x00 ∷ 0x03 ∷ [])
    ∷ takes 32768 4096 1 0 1
    ∷ takes 32768 4096 4097 0 2
    ∷ takes 32768 4096 28673 0 8
    ∷ takes 32768 4096 32768 1 0
    ∷ leads 4096 11 11 []
    ∷ leads 4096 12 12 (0 ∷ [])
    ∷ leads 4096 524 13 (0 ∷ 0 ∷ [])
    ∷ leads 4096 262668 14 (0 ∷ 0 ∷ 0 ∷ [])
    ∷ smallest 4 12
    ∷ smallest 5 16
    ∷ smallest 255 264
    ∷ attribute 2 5 24 3
    ∷ []
