-- The laws of `specs/Bits.antt`: bits and runs of bits of a map, and what a store of one byte leaves of them. Assumes nothing.
use mathlib.Core.Path.{◌≡◌, refl, sym, ap, subst, ◌∙◌}
use mathlib.Core.Bool.{Bool, true, false, not, ◌&&◌, ◌||◌}
use mathlib.Core.List.{List, [], ◌∷◌}
use mathlib.Core.Logic.{◌⊎◌, inl, inr, ⊎_elim}
use Prim.Native.Nat.{ℕ, zero, suc, ◌+◌, ◌-◌, ◌*◌, ◌/◌, ◌%◌, ◌^◌, ◌≤◌, ◌<◌}
use native.Mathlib.Nat.{add-zero, add_assoc, mul-suc, mul-le-mul_left, div-one, mod-eq_of_lt}
use native.Mathlib.Decide.{ℕ_discrete, dec_lt}
use native.Mathlib.Omega.{arith}
use lib.Dec.{eqb}
use lib.ListN.{length, get_or, set}
use lib.Seq.{get_or-set_same, set-get_or}
use borrow.Author.Tests.{eqb-true, eq-eqb, ne_eqb}
use Rattle.field.specs.Field.{put, Kept}
use Rattle.field.proofs.Laws.{put-none, put-more, kept-put}
use Rattle.bits.specs.Upto.{as_bit}
use Rattle.bits.specs.Bits.{is_frag, bit, bit_at, is_clear, frag_free, bits_are, block_free, block_full, put_bits, put_bits_at}
use Rattle.bits.proofs.UptoLaws.{as_bit-one, true-not-false, not-true, all-none, all-more, all-at, all-holds, all_fail, all-same, all-split}
use Rattle.bits.proofs.ByteLaws.{bit-two, bit-zero, bit-ones, put_no_bits, put-inside, put-outside, put-lt, run-test}

-- ---- frag

either : (a b : Bool) → (a || b) ≡ true → (a ≡ true) ⊎ (b ≡ true)
either true b h = inl refl
either false b h = inr h

pub frag-is : (frag : ℕ) → is_frag frag ≡ (eqb frag 1 || eqb frag 2 || eqb frag 4 || eqb frag 8)
unfolding is_frag
frag-is frag = refl

-- what holds at 1, 2, 4 and 8 holds at every frag
pub frag_cases : (P : ℕ → Type 0) → P 1 → P 2 → P 4 → P 8 → (frag : ℕ) → is_frag frag ≡ true → P frag
unfolding is_frag
frag_cases P one two four eight frag h =
    ⊎_elim
    (λ h. ⊎_elim
    (λ h. ⊎_elim (λ e. subst P (sym (eqb-true frag 1 e)) one) (λ e. subst P (sym (eqb-true frag 2 e)) two) (either (eqb frag 1) (eqb frag 2) h))
    (λ e. subst P (sym (eqb-true frag 4 e)) four) (either (eqb frag 1 || eqb frag 2) (eqb frag 4) h))
    (λ e. subst P (sym (eqb-true frag 8 e)) eight) (either (eqb frag 1 || eqb frag 2 || eqb frag 4) (eqb frag 8) h)

pub frag-some : (frag : ℕ) → is_frag frag ≡ true → 0 < frag
frag-some = frag_cases (λ (k : ℕ). 0 < k) (omega arith) (omega arith) (omega arith) (omega arith)

pub frag-most : (frag : ℕ) → is_frag frag ≡ true → frag ≤ 8
frag-most = frag_cases (λ (k : ℕ). k ≤ 8) (omega arith) (omega arith) (omega arith) (omega arith)

-- a block stands in one byte
pub block_in_byte : (h frag : ℕ) → is_frag frag ≡ true → frag * h % 8 + frag ≤ 8
block_in_byte h = frag_cases (λ (k : ℕ). k * h % 8 + k ≤ 8) (omega arith) (omega arith) (omega arith) (omega arith)

-- the four arms: the byte of block h and its first bit there, by the number of blocks of a byte
module _ (h k : ℕ) {frag : ℕ} (e : frag ≡ k) (is : is_frag frag ≡ true) where
  pub arm-byte : frag * h / 8 ≡ h / (8 / k)
  arm-byte = subst (λ (k : ℕ). frag * h / 8 ≡ h / (8 / k)) e (frag_cases (λ (k : ℕ). k * h / 8 ≡ h / (8 / k)) (omega arith) (omega arith) (omega arith) (omega arith) frag is)

  pub arm-bit : frag * h % 8 ≡ h % (8 / k) * k
  arm-bit = subst (λ (k : ℕ). frag * h % 8 ≡ h % (8 / k) * k) e (frag_cases (λ (k : ℕ). k * h % 8 ≡ h % (8 / k) * k) (omega arith) (omega arith) (omega arith) (omega arith) frag is)

-- the last arm, as a match leaves it
pub last_arm : {frag : ℕ} → ((Unit {0} × (frag ≡ 8 → ⊥)) × (frag ≡ 4 → ⊥)) × (frag ≡ 2 → ⊥) → is_frag frag ≡ true → frag ≡ 1
last_arm {frag} rest is =
    frag_cases (λ (k : ℕ). (k ≡ 8 → ⊥) → (k ≡ 4 → ⊥) → (k ≡ 2 → ⊥) → k ≡ 1)
    (λ a b c. refl) (λ a b c. absurd (c refl)) (λ a b c. absurd (b refl)) (λ a b c. absurd (a refl)) frag is rest.0.0.1 rest.0.1 rest.1

-- a block below the last ends before it
pub block-ends : (frag h nb : ℕ) → h < nb → frag * h + frag ≤ frag * nb
block-ends frag h nb l = rw mul-suc at (mul-le-mul_left frag l)

-- ---- bits

pub bit_at-is : (img : List ℕ) (at f : ℕ) → bit_at img at f ≡ get_or img (at + f / 8) 0 / 2 ^ (f % 8) % 2
unfolding bit_at bit
bit_at-is img at f = refl

pub bit_at-two : (img : List ℕ) (at f : ℕ) → bit_at img at f < 2
unfolding bit_at
bit_at-two img at f = bit-two (f % 8) (get_or img (at + f / 8) 0)

-- a bit is that of one byte
pub bit_at-same : (xs ys : List ℕ) (at f : ℕ) → get_or ys (at + f / 8) 0 ≡ get_or xs (at + f / 8) 0 → bit_at ys at f ≡ bit_at xs at f
unfolding bit_at
bit_at-same xs ys at f e = ap (bit (f % 8)) e

pub kept-bit_at : {a n : ℕ} {xs ys : List ℕ} (at f : ℕ) → Kept a n xs ys → (at + f / 8 < a) ⊎ (a + n ≤ at + f / 8) → bit_at ys at f ≡ bit_at xs at f
kept-bit_at {xs = xs} {ys = ys} at f k h = bit_at-same xs ys at f (k.byte (at + f / 8) h)

pub bit_at_near : (img : List ℕ) (at f k : ℕ) → f % 8 + k < 8 → bit_at img at (f + k) ≡ bit (f % 8 + k) (get_or img (at + f / 8) 0)
unfolding bit_at
bit_at_near img at f k h =
    let q : (f + k) / 8 ≡ f / 8 = omega arith in
    let r : (f + k) % 8 ≡ f % 8 + k = omega arith in
    rw (q, r)

-- the bits of a byte of 0 and of a byte of 255
pub bit_at-empty : (img : List ℕ) (at f : ℕ) → get_or img (at + f / 8) 0 ≡ 0 → bit_at img at f ≡ 0
unfolding bit_at
bit_at-empty img at f e = ap (bit (f % 8)) e ∙ bit-zero (f % 8)

pub bit_at_filled : (img : List ℕ) (at f : ℕ) → get_or img (at + f / 8) 0 ≡ 255 → bit_at img at f ≡ 1
unfolding bit_at
bit_at_filled img at f e = ap (bit (f % 8)) e ∙ bit-ones 8 (f % 8) (omega arith)

pub free-bit : (img : List ℕ) (at f : ℕ) → frag_free img at f ≡ eqb (bit_at img at f) 1
unfolding frag_free
free-bit img at f = refl

pub frag-bit : (img : List ℕ) (at f : ℕ) → as_bit (frag_free img at f) ≡ bit_at img at f
unfolding frag_free
frag-bit img at f = as_bit-one (bit_at img at f) (bit_at-two img at f)

-- a bit is clear where its fragment is not free
pub clear-is : (img : List ℕ) (at f : ℕ) → is_clear img at f ≡ not (frag_free img at f)
unfolding is_clear frag_free
clear-is img at f = opposite (bit_at img at f) (bit_at-two img at f)
  where
    opposite : (b : ℕ) → b < 2 → eqb b 0 ≡ not (eqb b 1)
    opposite zero h = refl
    opposite (suc zero) h = refl
    opposite (suc (suc b)) h = absurd (let z : ⊥ = omega arith in z)

-- no bit of a byte of 255 is clear
pub clear_filled : (img : List ℕ) (at f : ℕ) → get_or img (at + f / 8) 0 ≡ 255 → is_clear img at f ≡ false
unfolding is_clear
clear_filled img at f e = ne_eqb (bit_at img at f) 0 (λ q. omega (arith, bit_at_filled img at f e))

-- as the code reads it
pub frag-free : (img : List ℕ) (at f : ℕ) → eqb (get_or img (at + f / 8) 0 / 2 ^ (f % 8) % 2) 1 ≡ frag_free img at f
unfolding frag_free
frag-free img at f = ap (λ (b : ℕ). eqb b 1) (sym (bit_at-is img at f))

-- ---- runs of bits

module _ (v : ℕ) (img : List ℕ) (at f : ℕ) where
  pub bits_none : bits_are v img at f 0 ≡ true
  unfolding bits_are
  bits_none = all-none _

  pub bits-one : bits_are v img at f 1 ≡ eqb (bit_at img at f) v
  unfolding bits_are
  bits-one = all-more _ 0 ∙ rw (all-none (λ (k : ℕ). eqb (bit_at img at (f + k)) v), add-zero f)

  pub bits-more : (n : ℕ) → bits_are v img at f (n + 1) ≡ (bits_are v img at f n && eqb (bit_at img at (f + n)) v)
  unfolding bits_are
  bits-more n = all-more _ n

  pub bits_at : (n k : ℕ) → bits_are v img at f n ≡ true → k < n → bit_at img at (f + k) ≡ v
  unfolding bits_are
  bits_at n k a l = eqb-true _ v (all-at _ n k a l)

  pub bits-hold : (n : ℕ) → ((k : ℕ) → k < n → bit_at img at (f + k) ≡ v) → bits_are v img at f n ≡ true
  unfolding bits_are
  bits-hold n h = all-holds _ n (λ k l. eq-eqb _ v (h k l))

  pub bits-fail : (n k : ℕ) → k < n → (bit_at img at (f + k) ≡ v → ⊥) → bits_are v img at f n ≡ false
  unfolding bits_are
  bits-fail n k l h = all_fail _ n k l (ne_eqb _ v h)

  pub bits-split : (m n : ℕ) → bits_are v img at f (m + n) ≡ (bits_are v img at f m && bits_are v img at (f + m) n)
  unfolding bits_are
  bits-split m n =
      all-split _ m n
      ∙ ap (λ (b : Bool). bits_are v img at f m && b) (all-same _ _ n (λ k l. ap (λ (g : ℕ). eqb (bit_at img at g) v) (sym (add_assoc f m k))))

  -- a run within one byte: one test
  pub bits-byte : (n : ℕ) → v < 2 → f % 8 + n ≤ 8 → bits_are v img at f n ≡ eqb (get_or img (at + f / 8) 0 / 2 ^ (f % 8) % 2 ^ n) (v * (2 ^ n - 1))
  unfolding bits_are
  bits-byte n two h =
      all-same _ _ n (λ k l. ap (λ (b : ℕ). eqb b v) (bit_at_near img at f k (omega arith)))
      ∙ run-test v n (f % 8) (get_or img (at + f / 8) 0) two

module _ (v : ℕ) (img : List ℕ) (at f : ℕ) where
  -- a part of a run
  pub bits-part : (n m k : ℕ) → m + k ≤ n → bits_are v img at f n ≡ true → bits_are v img at (f + m) k ≡ true
  bits-part n m k l a =
      bits-hold v img at (f + m) k (λ j b. ap (bit_at img at) (add_assoc f m j) ∙ bits_at v img at f n (m + j) a (omega arith))

  pub bits-part-fails : (n m k : ℕ) → m + k ≤ n → bits_are v img at (f + m) k ≡ false → bits_are v img at f n ≡ false
  bits-part-fails n m k l e = not-true (bits_are v img at f n) (λ a. true-not-false (bits-part n m k l a) e)

  -- the bits before the whole bytes i to j, those of these bytes, and those after
  pub bits-bytes : (n i j : ℕ) → f ≤ 8 * i → i ≤ j → 8 * j ≤ f + n →
      bits_are v img at f n ≡ (bits_are v img at f (8 * i - f) && bits_are v img at (8 * i) (8 * (j - i)) && bits_are v img at (8 * j) (f + n - 8 * j))
  bits-bytes n i j l m u =
      let a = 8 * i - f in
      let b = 8 * (j - i) in
      let e : n ≡ a + b + (f + n - 8 * j) = omega arith in
      let p : f + a ≡ 8 * i = omega arith in
      let q : f + (a + b) ≡ 8 * j = omega arith in
      ap (bits_are v img at f) e ∙ rw (bits-split v img at f (a + b), bits-split v img at f a b, p, q)

pub bits-same : (v : ℕ) (xs ys : List ℕ) (at f n : ℕ) → ((k : ℕ) → k < n → bit_at ys at (f + k) ≡ bit_at xs at (f + k)) → bits_are v ys at f n ≡ bits_are v xs at f n
unfolding bits_are
bits-same v xs ys at f n h = all-same _ _ n (λ k l. ap (λ (b : ℕ). eqb b v) (h k l))

-- a whole byte: its eight bits are all 0 where it is 0, and all 1 where it is 255
pub byte-bits : (v : ℕ) (img : List ℕ) (at i : ℕ) → v < 2 → get_or img (at + i) 0 < 256 → bits_are v img at (8 * i) 8 ≡ eqb (get_or img (at + i) 0) (v * 255)
byte-bits v img at i two h =
    let q : 8 * i / 8 ≡ i = omega arith in
    let r : 8 * i % 8 ≡ 0 = omega arith in
    let e : get_or img (at + i) 0 / 2 ^ 0 % 2 ^ 8 ≡ get_or img (at + i) 0 = ap (λ (x : ℕ). x % 256) (div-one (get_or img (at + i) 0)) ∙ mod-eq_of_lt h in
    bits-byte v img at (8 * i) 8 two (omega arith)
    ∙ rw (q, r) (ap (λ (x : ℕ). eqb x (v * 255)) e)

-- the bytes from i, one more, and one that is not so
module _ (v : ℕ) (img : List ℕ) (at i k : ℕ) (two : v < 2) (small : get_or img (at + i + k) 0 < 256) where
  next-byte : bits_are v img at (8 * i + 8 * k) 8 ≡ eqb (get_or img (at + i + k) 0) (v * 255)
  next-byte =
      let e : 8 * i + 8 * k ≡ 8 * (i + k) = omega arith in
      let a : at + (i + k) ≡ at + i + k = omega arith in
      ap (λ (f : ℕ). bits_are v img at f 8) e ∙ rw a at (byte-bits v img at (i + k) two (rw a small))

  pub bytes-more : bits_are v img at (8 * i) (8 * k) ≡ true → get_or img (at + i + k) 0 ≡ v * 255 → bits_are v img at (8 * i) (8 * (k + 1)) ≡ true
  bytes-more a e =
      let q : 8 * (k + 1) ≡ 8 * k + 8 = omega arith in
      rw (q, bits-split v img at (8 * i) (8 * k) 8, a) (next-byte ∙ eq-eqb _ _ e)

  pub bytes-fail : (n : ℕ) → k < n → (get_or img (at + i + k) 0 ≡ v * 255 → ⊥) → bits_are v img at (8 * i) (8 * n) ≡ false
  bytes-fail n l h = bits-part-fails v img at (8 * i) (8 * n) (8 * k) 8 (omega arith) (next-byte ∙ ne_eqb _ _ h)

-- ---- blocks

pub free-bits : (frag : ℕ) (img : List ℕ) (at h : ℕ) → block_free frag img at h ≡ bits_are 1 img at (frag * h) frag
unfolding block_free
free-bits frag img at h = refl

pub full-bits : (frag : ℕ) (img : List ℕ) (at h : ℕ) → block_full frag img at h ≡ bits_are 0 img at (frag * h) frag
unfolding block_full
full-bits frag img at h = refl

-- a block is tested in one byte, and changed in one byte: the arm of k fragments has its byte i and its first bit s
module _ (v : ℕ) (img : List ℕ) (at h k i s : ℕ) {frag : ℕ} (e : frag ≡ k) (is : is_frag frag ≡ true) (byte : i ≡ h / (8 / k)) (first_bit : s ≡ h % (8 / k) * k) where
  pub arm-test : v < 2 → eqb (get_or img (at + i) 0 / 2 ^ s % 2 ^ k) (v * (2 ^ k - 1)) ≡ bits_are v img at (frag * h) frag
  arm-test two = rw (byte, first_bit) (sym (bits-byte v img at (frag * h) frag two (block_in_byte h frag is) ∙ rw (arm-byte h k e is, arm-bit h k e is, e)))

  pub arm-put : put_bits v k s (get_or img (at + i) 0) ≡ put_bits v frag (frag * h % 8) (get_or img (at + frag * h / 8) 0)
  arm-put = rw (byte, first_bit, arm-byte h k e is, arm-bit h k e is, e)

-- ---- one byte stored

pub put-one : (at v : ℕ) (xs : List ℕ) → put at (v ∷ []) xs ≡ set xs at v
put-one at v xs = put-more at (v ∷ []) xs 0 (omega arith) ∙ ap (λ (ys : List ℕ). set ys (at + 0) v) (put-none at xs) ∙ ap (λ (k : ℕ). set xs k v) (add-zero at)

module _ (v : ℕ) (img : List ℕ) (at f n : ℕ) where
  pub kept-put_bits_at : Kept (at + f / 8) 1 img (put_bits_at v img at f n)
  unfolding put_bits_at
  kept-put_bits_at = kept-put (at + f / 8) (put_bits v n (f % 8) (get_or img (at + f / 8) 0) ∷ []) img

  pub length-put_bits_at : length (put_bits_at v img at f n) ≡ length img
  length-put_bits_at = kept-put_bits_at.long

  -- as one write
  pub put_bits_at-is : put_bits_at v img at f n ≡ put (at + f / 8) (put_bits v n (f % 8) (get_or img (at + f / 8) 0) ∷ []) img
  unfolding put_bits_at
  put_bits_at-is = refl

  -- as the code stores it
  pub put_bits_at-set : put_bits_at v img at f n ≡ set img (at + f / 8) (put_bits v n (f % 8) (get_or img (at + f / 8) 0))
  unfolding put_bits_at
  put_bits_at-set = put-one (at + f / 8) _ img

-- a run of no bits leaves the image
pub put_bits_at-none : (v : ℕ) (img : List ℕ) (at f : ℕ) → put_bits_at v img at f 0 ≡ img
put_bits_at-none v img at f =
    put_bits_at-set v img at f 0 ∙ ap (set img (at + f / 8)) (put_no_bits v (f % 8) (get_or img (at + f / 8) 0)) ∙ set-get_or img (at + f / 8) 0

module _ (v : ℕ) (img : List ℕ) (at f n : ℕ) (two : v < 2) (in_byte : f % 8 + n ≤ 8) (in_image : at + f / 8 < length img) where
  pub byte-stored : get_or (put_bits_at v img at f n) (at + f / 8) 0 ≡ put_bits v n (f % 8) (get_or img (at + f / 8) 0)
  byte-stored = rw (put_bits_at-set v img at f n) (get_or-set_same img (at + f / 8) _ 0 in_image)

  -- the bits of the run are v
  pub bit_at-inside : (g : ℕ) → f ≤ g → g < f + n → bit_at (put_bits_at v img at f n) at g ≡ v
  bit_at-inside g l u =
      let e : f + (g - f) ≡ g = omega arith in
      ap (bit_at (put_bits_at v img at f n) at) (sym e)
      ∙ bit_at_near (put_bits_at v img at f n) at f (g - f) (omega arith)
      ∙ ap (bit (f % 8 + (g - f))) byte-stored
      ∙ put-inside v n (f % 8) (get_or img (at + f / 8) 0) two (f % 8 + (g - f)) (omega arith) (omega arith)

  -- every other bit is as it was
  pub bit_at-outside : (g : ℕ) → (g < f) ⊎ (f + n ≤ g) → bit_at (put_bits_at v img at f n) at g ≡ bit_at img at g
  unfolding bit_at
  bit_at-outside g h = go (ℕ_discrete (g / 8) (f / 8))
    where
      go : Dec (g / 8 ≡ f / 8) → bit_at (put_bits_at v img at f n) at g ≡ bit_at img at g
      go (yes q) =
          rw (q, byte-stored)
          (put-outside v n (f % 8) (get_or img (at + f / 8) 0) two (g % 8) (⊎_elim (λ x. inl (omega arith)) (λ x. inr (omega arith)) h))
      go (no q) = kept-bit_at at g (kept-put_bits_at v img at f n) (apart (dec_lt (g / 8) (f / 8)))
        where
          apart : Dec (g / 8 < f / 8) → (at + g / 8 < at + f / 8) ⊎ (at + f / 8 + 1 ≤ at + g / 8)
          apart (yes x) = inl (omega arith)
          apart (no x) = inr (omega arith)

  -- what is stored is a byte
  pub byte-lt : get_or img (at + f / 8) 0 < 256 → put_bits v n (f % 8) (get_or img (at + f / 8) 0) < 256
  byte-lt b = put-lt v n (f % 8) (get_or img (at + f / 8) 0) two 8 in_byte b
