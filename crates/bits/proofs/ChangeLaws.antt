-- What is left of blocks, scans and counts where bits are as they were, and where a run of bits is changed. Assumes nothing.
use mathlib.Core.Path.{◌≡◌, sym, ap, ◌∙◌}
use mathlib.Core.Bool.{true}
use mathlib.Core.List.{List}
use mathlib.Core.Logic.{◌⊎◌, inl, inr, ⊎_elim}
use Prim.Native.Nat.{ℕ, zero, suc, ◌+◌, ◌-◌, ◌*◌, ◌/◌, ◌%◌, ◌≤◌, ◌<◌}
use native.Mathlib.Nat.{mul-add, mul_comm}
use native.Mathlib.Decide.{dec_lt}
use native.Mathlib.Omega.{arith}
use lib.Dec.{eqb}
use lib.ListN.{length, get_or}
use Rattle.field.specs.Field.{Kept}
use Rattle.bits.specs.Upto.{as_bit}
use Rattle.bits.specs.Bits.{is_frag, bit_at, is_clear, bits_are, block_free, put_bits_at, first_free, first_clear, free_blocks, free_frags, loose_frags}
use Rattle.bits.proofs.UptoLaws.{as_bit-true, as_bit-false, first-same, count-same, sum-same, sum_const, sum_change, count_change}
use Rattle.bits.proofs.BitsLaws.{frag-some, block_in_byte, block-ends, bit_at-same, kept-bit_at, bits-same, bits_at, bits-hold, bits-fail, free-bits, bit_at-inside, bit_at-outside}
use Rattle.bits.proofs.CountLaws.{loose-sum}

-- ---- bits that are as they were

-- a map of m bytes that are as they were
pub map-same : (xs ys : List ℕ) (at m n : ℕ) → n ≤ 8 * m → ((i : ℕ) → i < m → get_or ys (at + i) 0 ≡ get_or xs (at + i) 0) → (f : ℕ) → f < n → bit_at ys at f ≡ bit_at xs at f
map-same xs ys at m n l e f u = bit_at-same xs ys at f (e (f / 8) (omega arith))

pub kept-map : {a k : ℕ} {xs ys : List ℕ} (at m n : ℕ) → Kept a k xs ys → (at + m ≤ a) ⊎ (a + k ≤ at) → n ≤ 8 * m → (f : ℕ) → f < n → bit_at ys at f ≡ bit_at xs at f
kept-map at m n p h l f u = kept-bit_at at f p (⊎_elim (λ x. inl (omega arith)) (λ x. inr (omega arith)) h)

module _ (xs ys : List ℕ) (at n : ℕ) (same : (f : ℕ) → f < n → bit_at ys at f ≡ bit_at xs at f) where
  pub run-same : (v f k : ℕ) → f + k ≤ n → bits_are v ys at f k ≡ bits_are v xs at f k
  run-same v f k l = bits-same v xs ys at f k (λ j u. same (f + j) (omega arith))

  pub block_same : (frag h : ℕ) → frag * h + frag ≤ n → block_free frag ys at h ≡ block_free frag xs at h
  block_same frag h l = free-bits frag ys at h ∙ run-same 1 (frag * h) frag l ∙ sym (free-bits frag xs at h)

  pub blocks-same : (frag nb : ℕ) → frag * nb ≤ n → free_blocks frag ys at nb ≡ free_blocks frag xs at nb
  unfolding free_blocks
  blocks-same frag nb l = count-same _ _ nb (λ h u. block_same frag h (omega (arith, block-ends frag h nb u)))

  pub first-free-same : (frag nb : ℕ) → frag * nb ≤ n → first_free frag ys at nb ≡ first_free frag xs at nb
  unfolding first_free
  first-free-same frag nb l = first-same _ _ 0 nb (λ h z u. block_same frag h (omega (arith, block-ends frag h nb (omega arith))))

  pub first-clear-same : first_clear ys at n ≡ first_clear xs at n
  unfolding first_clear is_clear
  first-clear-same = first-same _ _ 0 n (λ f z u. ap (λ (b : ℕ). eqb b 0) (same f (omega arith)))

  pub frags-same : free_frags ys at n ≡ free_frags xs at n
  unfolding free_frags
  frags-same = sum-same _ _ n same

  pub loose_same : (frag nb : ℕ) → is_frag frag ≡ true → frag * nb ≤ n → loose_frags frag ys at n nb ≡ loose_frags frag xs at n nb
  loose_same frag nb is l =
      omega (arith, loose-sum frag ys at nb (frag-some frag is) n l, loose-sum frag xs at nb (frag-some frag is) n l, frags-same, ap (λ (b : ℕ). frag * b) (blocks-same frag nb l))

-- ---- the n bits from f made v

module _ (v : ℕ) (img : List ℕ) (at f n : ℕ) (two : v < 2) (in_byte : f % 8 + n ≤ 8) (in_image : at + f / 8 < length img) where
  pub run-put : bits_are v (put_bits_at v img at f n) at f n ≡ true
  run-put = bits-hold v (put_bits_at v img at f n) at f n (λ k l. bit_at-inside v img at f n two in_byte in_image (f + k) (omega arith) (omega arith))

  -- they were all u
  pub frags-put : (u m : ℕ) → bits_are u img at f n ≡ true → f + n ≤ m → free_frags (put_bits_at v img at f n) at m + u * n ≡ free_frags img at m + v * n
  unfolding free_frags
  frags-put u m a l =
      let img' = put_bits_at v img at f n in
      let q : f + n + (m - (f + n)) ≡ m = omega arith in
      let was = sum_const (λ (k : ℕ). bit_at img at (f + k)) u n (λ k b. bits_at u img at f n k a b) in
      let is = sum_const (λ (k : ℕ). bit_at img' at (f + k)) v n (λ k b. bits_at v img' at f n k run-put b) in
      rw (was, is, q) at (sum_change (bit_at img' at) (bit_at img at) f n (m - (f + n)) (bit_at-outside v img at f n two in_byte in_image))

  -- a block that the run does not meet
  pub block_apart : (frag h : ℕ) → (frag * h + frag ≤ f) ⊎ (f + n ≤ frag * h) → block_free frag (put_bits_at v img at f n) at h ≡ block_free frag img at h
  block_apart frag h o =
      free-bits frag (put_bits_at v img at f n) at h
      ∙ bits-same 1 img (put_bits_at v img at f n) at (frag * h) frag (λ k l. bit_at-outside v img at f n two in_byte in_image (frag * h + k) (⊎_elim (λ x. inl (omega arith)) (λ x. inr (omega arith)) o))
      ∙ sym (free-bits frag img at h)

  -- the run lies in block h
  pub blocks-put : (frag h nb : ℕ) → h < nb → frag * h ≤ f → f + n ≤ frag * h + frag →
      free_blocks frag (put_bits_at v img at f n) at nb + as_bit (block_free frag img at h) ≡ free_blocks frag img at nb + as_bit (block_free frag (put_bits_at v img at f n) at h)
  unfolding free_blocks
  blocks-put frag h nb l from to = count_change _ _ nb h l (λ g q. block_apart frag g (side g q (dec_lt g h)))
    where
      side : (g : ℕ) → (g ≡ h → ⊥) → Dec (g < h) → (frag * g + frag ≤ f) ⊎ (f + n ≤ frag * g)
      side g q (yes x) = inl (omega (arith, block-ends frag g h x))
      side g q (no x) = inr (omega (arith, block-ends frag h g (omega arith)))

-- ---- block h, whose bits were all u, made v: given out from 1 to 0, taken back from 0 to 1

pub block-is : (u frag : ℕ) (img : List ℕ) (at h : ℕ) → u < 2 → 0 < frag → bits_are u img at (frag * h) frag ≡ true → as_bit (block_free frag img at h) ≡ u
block-is zero frag img at h b some a =
    as_bit-false (free-bits frag img at h ∙ bits-fail 1 img at (frag * h) frag 0 some (λ q. omega (arith, bits_at 0 img at (frag * h) frag 0 a some)))
block-is (suc zero) frag img at h b some a = as_bit-true (free-bits frag img at h ∙ a)
block-is (suc (suc u)) frag img at h b some a = absurd (let z : ⊥ = omega arith in z)

module _ (u v frag : ℕ) (img : List ℕ) (at h nb : ℕ) (was : u < 2) (two : v < 2) (is : is_frag frag ≡ true) (l : h < nb) (in_image : at + frag * h / 8 < length img)
    (all-u : bits_are u img at (frag * h) frag ≡ true) where
  pub blocks-change : free_blocks frag (put_bits_at v img at (frag * h) frag) at nb + u ≡ free_blocks frag img at nb + v
  blocks-change =
      let some = frag-some frag is in
      let in_byte = block_in_byte h frag is in
      let before = block-is u frag img at h was some all-u in
      let after = block-is v frag (put_bits_at v img at (frag * h) frag) at h two some (run-put v img at (frag * h) frag two in_byte in_image) in
      rw (before, after) at (blocks-put v img at (frag * h) frag two in_byte in_image frag h nb l (omega arith) (omega arith))

  -- no fragment becomes loose, or is so no more
  pub loose-change : (n : ℕ) → frag * nb ≤ n → loose_frags frag (put_bits_at v img at (frag * h) frag) at n nb ≡ loose_frags frag img at n nb
  loose-change n b =
      let some = frag-some frag is in
      let img' = put_bits_at v img at (frag * h) frag in
      omega (
        arith,
        loose-sum frag img at nb some n b,
        loose-sum frag img' at nb some n b,
        frags-put v img at (frag * h) frag two (block_in_byte h frag is) in_image u n all-u (omega (arith, block-ends frag h nb l)),
        ap (λ (k : ℕ). frag * k) blocks-change,
        mul-add frag (free_blocks frag img' at nb) u,
        mul-add frag (free_blocks frag img at nb) v,
        mul_comm frag u,
        mul_comm frag v,
      )
