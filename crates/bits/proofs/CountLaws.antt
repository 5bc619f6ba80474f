-- The laws of the scans and counts of `specs/Bits.antt`. Assumes nothing.
use mathlib.Core.Path.{◌≡◌, refl, sym, ap, ◌∙◌}
use mathlib.Core.Bool.{Bool, true, false, not, ◌&&◌, and-true, and-false}
use mathlib.Core.List.{List}
use Prim.Native.Nat.{ℕ, ◌+◌, ◌-◌, ◌*◌, ◌/◌, ◌%◌, ◌^◌, ◌≤◌, ◌<◌, min}
use native.Mathlib.Nat.{add-zero, mul-add, mul_assoc, mul_comm, mul-le-mul_left, mul-add-div, div-eq_of_lt, le-div_iff_mul-le, div-le_of_le-mul}
use native.Mathlib.Omega.{arith}
use lib.Count.{ones}
use borrow.Author.Tests.{lt-ltb, le-ltb}
use lib.ListN.{get_or}
use Rattle.bits.specs.Upto.{sum, count, first, as_bit}
use Rattle.bits.specs.Bits.{is_frag, bit, bit_at, is_clear, block_free, first_free, first_clear, free_blocks, free_frags, is_loose, loose_frags, frag_free, InByte}
use Rattle.bits.proofs.UptoLaws.{as_bit-true, as_bit-false, sum_const, sum_times, sum-groups, sum-none, sum-more, sum-same, sum-split, sum_le, count-sum, count-none, count-more, count-split, count_const, count_le}
use Rattle.bits.proofs.ByteLaws.{bits-ones}
use Rattle.bits.proofs.BitsLaws.{bits_at, frag-bit, bit_at-two, bit_at_near, frag_cases, frag-some, block-ends, bit_at-empty, bit_at_filled, bits-hold, bits-fail, free-bits}

-- ---- where blocks stand

-- the blocks of a byte
pub frag_per : (frag : ℕ) → is_frag frag ≡ true → (frag * (8 / frag) ≡ 8) × (1 ≤ 8 / frag) × (8 / frag ≤ 8)
frag_per = frag_cases (λ (k : ℕ). (k * (8 / k) ≡ 8) × (1 ≤ 8 / k) × (8 / k ≤ 8)) (omega arith) (omega arith) (omega arith) (omega arith)

-- a block's byte is one of the map's
pub block-place : (frag at h nb end : ℕ) → is_frag frag ≡ true → h < nb → at + (frag * nb + 7) / 8 ≤ end → at + frag * h / 8 < end
block-place frag at h nb end is l b = omega (arith, block-ends frag h nb l, frag-some frag is)

-- the blocks of map byte i
module _ {frag at i from to end : ℕ} (b : InByte frag at i from to end) (img : List ℕ) (h : ℕ) (l : from ≤ h) (u : h < to) where
  in_byte : (k : ℕ) → k < frag → (frag * h + k) / 8 ≡ i
  in_byte k m = omega (arith, mul-le-mul_left frag l, block-ends frag h to u, b.first_bit, b.last_bit)

  -- none of a byte of 0 is free, each of a byte of 255 is
  pub empty-byte : get_or img (at + i) 0 ≡ 0 → block_free frag img at h ≡ false
  empty-byte e =
      let some = frag-some frag b.frags in
      free-bits frag img at h ∙ bits-fail 1 img at (frag * h) frag 0 some
      (λ q. let z = bit_at-empty img at (frag * h + 0) (ap (λ (j : ℕ). get_or img (at + j) 0) (in_byte 0 some) ∙ e) in omega arith)

  pub filled-byte : get_or img (at + i) 0 ≡ 255 → block_free frag img at h ≡ true
  filled-byte e =
      free-bits frag img at h ∙ bits-hold 1 img at (frag * h) frag
      (λ k m. bit_at_filled img at (frag * h + k) (ap (λ (j : ℕ). get_or img (at + j) 0) (in_byte k m) ∙ e))

-- a walk over a map of nb blocks, byte by byte: byte i, from block h to `to`
module _ (frag i h per to nb : ℕ) (is : is_frag frag ≡ true) (byte : frag * per ≡ 8) (first_bit : frag * h ≡ 8 * i) (most : to ≡ min (h + per) nb) where
  next_bit : frag * (h + per) ≡ 8 * i + 8
  next_bit = omega (arith, mul-add frag h per)

  pub walk-byte : (at end : ℕ) → h < nb → at + (frag * nb + 7) / 8 ≤ end → InByte frag at i h to end
  walk-byte at end l b = record {
    frags = is;
    ordered = omega arith;
    first_bit = first_bit;
    last_bit = let u : to ≤ h + per = omega arith in omega (arith, mul-le-mul_left frag u, next_bit);
    byte = omega (arith, block-ends frag h nb l, frag-some frag is);
  }

  pub walk-on : to < nb → frag * to ≡ 8 * (i + 1)
  walk-on l = let e : to ≡ h + per = omega arith in rw e (omega (arith, next_bit))

-- one pass over the map of n fragments and n / frag blocks: byte i begins with block per * i
module _ (frag per n i : ℕ) (is : is_frag frag ≡ true) (byte : frag * per ≡ 8) where
  pass-bit : frag * (per * i) ≡ 8 * i
  pass-bit = sym (mul_assoc frag per i) ∙ ap (λ (k : ℕ). k * i) byte

  pass-block : i < (n + 7) / 8 → per * i ≤ n / frag
  pass-block l = (le-div_iff_mul-le (frag-some frag is)).1 (rw (mul_comm (per * i) frag) (omega (arith, pass-bit)))

  -- the blocks before byte i, and before the end
  pub pass-here : i < (n + 7) / 8 → min (per * i) (n / frag) ≡ per * i
  pass-here l = omega (arith, pass-block l)

  pub pass-end : (n + 7) / 8 ≤ i → min (per * i) (n / frag) ≡ n / frag
  pass-end l = let u : n / frag ≤ per * i = div-le_of_le-mul frag (omega (arith, pass-bit)) in omega arith

  pub pass-byte : (at to end : ℕ) → to ≡ min (per * i + per) (n / frag) → i < (n + 7) / 8 → at + (n + 7) / 8 ≤ end → InByte frag at i (per * i) to end
  pass-byte at to end most l b = record {
    frags = is;
    ordered = omega (arith, pass-block l);
    first_bit = pass-bit;
    last_bit = let u : to ≤ per * i + per = omega arith in omega (arith, mul-le-mul_left frag u, mul-add frag (per * i) per, pass-bit);
    byte = omega arith;
  }

-- ---- scans

pub first-free-is : (frag : ℕ) (img : List ℕ) (at nb : ℕ) → first_free frag img at nb ≡ first (block_free frag img at) 0 nb
unfolding first_free
first-free-is frag img at nb = refl

pub first-clear-is : (img : List ℕ) (at n : ℕ) → first_clear img at n ≡ first (is_clear img at) 0 n
unfolding first_clear
first-clear-is img at n = refl

-- ---- counts

module _ (frag : ℕ) (img : List ℕ) (at : ℕ) where
  pub blocks-none : free_blocks frag img at 0 ≡ 0
  unfolding free_blocks
  blocks-none = count-none _

  pub blocks_more : (h : ℕ) → free_blocks frag img at (h + 1) ≡ free_blocks frag img at h + as_bit (block_free frag img at h)
  unfolding free_blocks
  blocks_more h = count-more _ h

  pub blocks-le : (nb : ℕ) → free_blocks frag img at nb ≤ nb
  unfolding free_blocks
  blocks-le nb = count_le _ nb

  -- blocks that are all free, or none of them
  pub blocks-const : (a : Bool) (v from to : ℕ) → as_bit a ≡ v → from ≤ to → ((h : ℕ) → from ≤ h → h < to → block_free frag img at h ≡ a) →
      free_blocks frag img at from + v * (to - from) ≡ free_blocks frag img at to
  unfolding free_blocks
  blocks-const a v from to w l e =
      let q : to ≡ from + (to - from) = omega arith in
      sym
      (ap (count (block_free frag img at)) q ∙ count-split _ from (to - from)
      ∙ ap (λ (k : ℕ). count (block_free frag img at) from + k) (count_const _ a (to - from) (λ k u. e (from + k) (omega arith) (omega arith)) ∙ ap (λ (v : ℕ). v * (to - from)) w))

module _ (img : List ℕ) (at : ℕ) where
  pub frags-none : free_frags img at 0 ≡ 0
  unfolding free_frags
  frags-none = sum-none _

  pub frags-more : (f : ℕ) → free_frags img at (f + 1) ≡ free_frags img at f + bit_at img at f
  unfolding free_frags
  frags-more f = sum-more _ f

  pub frags-le : (n : ℕ) → free_frags img at n ≤ n
  unfolding free_frags
  frags-le n = omega (arith, sum_le (bit_at img at) 1 n (λ f l. omega (arith, bit_at-two img at f)))

  -- the first m bits of byte i
  pub frags-byte : (i m : ℕ) → m ≤ 8 → free_frags img at (8 * i) + ones (get_or img (at + i) 0 % 2 ^ m) ≡ free_frags img at (8 * i + m)
  unfolding free_frags
  frags-byte i m l =
      sym
      (sum-split _ (8 * i) m
      ∙ ap (λ (k : ℕ). sum (bit_at img at) (8 * i) + k) (sum-same _ _ m (λ k u. here k (omega arith)) ∙ bits-ones m (get_or img (at + i) 0)))
    where
      here : (k : ℕ) → k < 8 → bit_at img at (8 * i + k) ≡ bit k (get_or img (at + i) 0)
      here k u =
          let q : 8 * i / 8 ≡ i = omega arith in
          let r : 8 * i % 8 + k ≡ k = omega arith in
          rw (q, r) at (bit_at_near img at (8 * i) k (omega arith))

-- ---- loose fragments

module _ (frag : ℕ) (img : List ℕ) (at nb : ℕ) (some : 0 < frag) where
  abbrev loose : ℕ → ℕ
  loose f = as_bit (is_loose frag img at nb f)

  place : (h k : ℕ) → k < frag → (frag * h + k) / frag ≡ h
  place h k l = mul-add-div some h k ∙ rw (div-eq_of_lt l) (add-zero h)

  -- a fragment of one of the blocks is loose where it is free and its block is not
  loose-in : (h k : ℕ) → h < nb → k < frag → is_loose frag img at nb (frag * h + k) ≡ (frag_free img at (frag * h + k) && not (block_free frag img at h))
  unfolding is_loose
  loose-in h k l u = rw (place h k u, lt-ltb h nb l)

  -- one past the blocks is loose where it is free
  loose-past : (f : ℕ) → frag * nb ≤ f → is_loose frag img at nb f ≡ frag_free img at f
  unfolding is_loose
  loose-past f l = rw (le-ltb (f / frag) nb ((le-div_iff_mul-le some).1 (rw mul_comm l))) (and-true (frag_free img at f))

  block-loose : (h : ℕ) → h < nb → sum (λ (k : ℕ). loose (frag * h + k)) frag + frag * as_bit (block_free frag img at h) ≡ sum (λ (k : ℕ). bit_at img at (frag * h + k)) frag
  block-loose h l = go (block_free frag img at h) refl
    where
      go : (a : Bool) → block_free frag img at h ≡ a → sum (λ (k : ℕ). loose (frag * h + k)) frag + frag * as_bit (block_free frag img at h) ≡ sum (λ (k : ℕ). bit_at img at (frag * h + k)) frag
      go true e =
          let s = sum_const (λ (k : ℕ). loose (frag * h + k)) 0 frag (λ k u. ap as_bit (loose-in h k l u ∙ rw e (and-false (frag_free img at (frag * h + k)))) ∙ as_bit-false refl) in
          let b = sum_const (λ (k : ℕ). bit_at img at (frag * h + k)) 1 frag (λ k u. bits_at 1 img at (frag * h) frag k (sym (free-bits frag img at h) ∙ e) u) in
          rw (as_bit-true e) (omega (arith, s, b))
      go false e =
          let s = sum-same (λ (k : ℕ). loose (frag * h + k)) (λ (k : ℕ). bit_at img at (frag * h + k)) frag
          (λ k u. ap as_bit (loose-in h k l u ∙ rw e (and-true (frag_free img at (frag * h + k)))) ∙ frag-bit img at (frag * h + k)) in
          rw (as_bit-false e) (omega (arith, s))

  loose-rest : (r : ℕ) → loose_frags frag img at (frag * nb + r) nb + frag * free_blocks frag img at nb ≡ free_frags img at (frag * nb + r)
  unfolding loose_frags free_blocks free_frags
  loose-rest r =
      let past = sum-same (λ (k : ℕ). loose (frag * nb + k)) (λ (k : ℕ). bit_at img at (frag * nb + k)) r
      (λ k u. ap as_bit (loose-past (frag * nb + k) (omega arith)) ∙ frag-bit img at (frag * nb + k)) in
      omega (
        arith,
        past,
        count-sum (is_loose frag img at nb) (frag * nb + r),
        ap (λ (b : ℕ). frag * b) (count-sum (block_free frag img at) nb),
        sum-groups loose (bit_at img at) (λ (h : ℕ). frag * as_bit (block_free frag img at h)) frag nb block-loose,
        sum_times (λ (h : ℕ). as_bit (block_free frag img at h)) frag nb,
        sum-split loose (frag * nb) r,
        sum-split (bit_at img at) (frag * nb) r,
      )

  -- the free fragments are those of free blocks and the loose ones
  pub loose-sum : (n : ℕ) → frag * nb ≤ n → loose_frags frag img at n nb + frag * free_blocks frag img at nb ≡ free_frags img at n
  loose-sum n l = let q : frag * nb + (n - frag * nb) ≡ n = omega arith in rw q at (loose-rest (n - frag * nb))

  pub loose-minus : (n : ℕ) → frag * nb ≤ n → loose_frags frag img at n nb ≡ free_frags img at n - frag * free_blocks frag img at nb
  loose-minus n l = omega (arith, loose-sum n l)

  -- the fragments of free blocks are free
  pub blocks-free : (n : ℕ) → frag * nb ≤ n → frag * free_blocks frag img at nb ≤ free_frags img at n
  blocks-free n l = omega (arith, loose-sum n l)
