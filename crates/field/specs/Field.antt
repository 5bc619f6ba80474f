-- Fields of a byte image. `part` and `put` are about bytes alone; `value` and `digits` about numbers alone; `num` and `put_num` join them, in either order.
-- Assumes nothing.
use Rattle.std.specs.Prelude.{ℕ, zero, suc, ◌+◌, ◌*◌, ◌/◌, ◌%◌, ◌<◌, ◌≤◌, List, [], ◌∷◌, reverse, length, take, drop, get_or, replicate, ◌≡◌, ◌⊎◌}
use Rattle.std.proofs.lemmas.List.Edits.{sets}
use Rattle.field.specs.declared.Order.{Order}
use Rattle.field.specs.declared.Order.TheVariants.{Little, Big}

-- the n bytes of xs from `at`
unfoldable pub part : ℕ → ℕ → List ℕ → List ℕ
part n at xs = take n (drop at xs)

-- xs with the bytes vs written from `at`
unfoldable pub put : ℕ → List ℕ → List ℕ → List ℕ
put at vs xs = sets xs at vs

-- n zeros
unfoldable pub zeros : ℕ → List ℕ
zeros n = replicate n 0

-- the number that the bytes say, the low byte first
unfoldable pub value : List ℕ → ℕ
value [] = 0
value (b ∷ bs) = b + 256 * value bs

-- the n low bytes of v, the low byte first
unfoldable pub digits : ℕ → ℕ → List ℕ
digits zero v = []
digits (suc n) v = v % 256 ∷ digits n (v / 256)

-- the bytes of a number as they stand in an image of either order, from the low byte first; and back
unfoldable pub turn : Order → List ℕ → List ℕ
turn Little bs = bs
turn Big bs = reverse bs

-- the number of n bytes at `at`
unfoldable pub num : Order → ℕ → ℕ → List ℕ → ℕ
num o n at xs = value (turn o (part n at xs))

-- xs with v's n low bytes written at `at`
unfoldable pub put_num : Order → ℕ → ℕ → ℕ → List ℕ → List ℕ
put_num o n at v xs = put at (turn o (digits n v)) xs

-- every element is a byte, as those of a `&[u8]` are
abbrev pub Bytes : List ℕ → Type 0
Bytes xs = (i : ℕ) → get_or xs i 0 < 256

-- ys is as xs outside the n bytes from `a`
pub record Kept (a n : ℕ) (xs ys : List ℕ) : Type 0 where
  pub long : length ys ≡ length xs
  pub byte : (k : ℕ) → (k < a) ⊎ (a + n ≤ k) → get_or ys k 0 ≡ get_or xs k 0
