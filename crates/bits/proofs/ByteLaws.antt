-- The laws of `bit` and `put_bits`: the bits of one byte. Assumes nothing.
use mathlib.Core.Path.{◌≡◌, refl, sym, ap, subst, ◌∙◌}
use mathlib.Core.Bool.{true, ◌&&◌}
use mathlib.Core.Logic.{◌⊎◌, ⊎_elim}
use Prim.Native.Nat.{ℕ, zero, suc, ◌+◌, ◌-◌, ◌*◌, ◌/◌, ◌%◌, ◌^◌, ◌≤◌, ◌<◌}
use native.Mathlib.Nat.{add-zero, mul-zero, mul-one, zero-mul, one-mul, mul_assoc, mul_comm, mul-le-mul, add-mul, add_comm, pow-suc, pow-succ', mul-add-div_right, mul-add-mod_self_right, zero-div, mod-lt}
use native.Mathlib.Omega.{arith}
use lib.Arith.{digits_lt}
use lib.Count.{ones, ones_in, ones_cat}
use lib.Dec.{eqb}
use lib.Pow.{pow_pos, pow-add, shr-shr, shr_lt, high, split, mod-pow-add, ones_split, ones_lt}
use borrow.Author.Tests.{eqb-true, eq-eqb}
use Rattle.bits.specs.Upto.{all, sum}
use Rattle.bits.specs.Bits.{bit, put_bits}
use Rattle.bits.proofs.UptoLaws.{both, same-test, all-none, all-more, sum-none, sum-more}

pub bit-two : (b x : ℕ) → bit b x < 2
unfolding bit
bit-two b x = omega arith

-- a number of bits below s and one above them: the bits below are those of the first, the others those of the second
bit-low : (j d a l : ℕ) → bit j (a * 2 ^ (suc d + j) + l) ≡ bit j l
unfolding bit
bit-low j d a l =
    let e : a * 2 ^ (suc d + j) ≡ a * 2 ^ d * 2 * 2 ^ j = ap (λ (q : ℕ). a * q) (pow-add 2 (suc d) j ∙ ap (λ (q : ℕ). q * 2 ^ j) (pow-suc 2 d)) ∙ sym (mul_assoc a (2 ^ d * 2) (2 ^ j)) ∙ ap (λ (q : ℕ). q * 2 ^ j) (sym (mul_assoc a (2 ^ d) 2)) in
    rw (e, mul-add-div_right (pow_pos j) (a * 2 ^ d * 2) l) (mul-add-mod_self_right (a * 2 ^ d) 2 (l / 2 ^ j))

pub bit-below : (s j a l : ℕ) → j < s → bit j (a * 2 ^ s + l) ≡ bit j l
bit-below s j a l h =
    let e : s ≡ suc (s - suc j) + j = omega arith in
    ap (λ (q : ℕ). bit j (a * 2 ^ q + l)) e ∙ bit-low j (s - suc j) a l

pub bit_above : (s k a l : ℕ) → l < 2 ^ s → bit (s + k) (a * 2 ^ s + l) ≡ bit k a
unfolding bit
bit_above s k a l h = ap (λ (q : ℕ). q % 2) (sym (shr-shr (a * 2 ^ s + l) s k) ∙ ap (λ (q : ℕ). q / 2 ^ k) (high a s h))

pub bit-zero : (b : ℕ) → bit b 0 ≡ 0
unfolding bit
bit-zero b = ap (λ (q : ℕ). q % 2) (zero-div (2 ^ b))

pub bit-ones : (n k : ℕ) → k < n → bit k (2 ^ n - 1) ≡ 1
unfolding bit
bit-ones n k h =
    let e : n ≡ suc (n - suc k) + k = omega arith in
    rw (e, ones_split (suc (n - suc k)) k, high (2 ^ suc (n - suc k) - 1) k (ones_lt k)) (omega (arith, pow-succ' 2 (n - suc k), pow_pos (n - suc k)))

-- v in each of the n low bits
filled_bit : (v n k : ℕ) → v < 2 → k < n → bit k (v * (2 ^ n - 1)) ≡ v
filled_bit zero n k b h = ap (bit k) (zero-mul (2 ^ n - 1)) ∙ bit-zero k
filled_bit (suc zero) n k b h = ap (bit k) (one-mul (2 ^ n - 1)) ∙ bit-ones n k h
filled_bit (suc (suc v)) n k b h = absurd (let e : ⊥ = omega arith in e)

filled_lt : (v n : ℕ) → v < 2 → v * (2 ^ n - 1) < 2 ^ n
filled_lt zero n b = omega (arith, pow_pos n)
filled_lt (suc zero) n b = omega (arith, pow_pos n)
filled_lt (suc (suc v)) n b = absurd (let e : ⊥ = omega arith in e)

-- ---- `put_bits`: what stands above, the run, and what stands below

put_parts : (v n s x : ℕ) → put_bits v n s x ≡ (x / 2 ^ (s + n) * 2 ^ n + v * (2 ^ n - 1)) * 2 ^ s + x % 2 ^ s
unfolding put_bits
put_parts v n s x =
    let a = x / 2 ^ (s + n) in
    let e : a * 2 ^ (s + n) ≡ a * 2 ^ n * 2 ^ s = ap (λ (q : ℕ). a * q) (pow-add 2 s n ∙ mul_comm (2 ^ s) (2 ^ n)) ∙ sym (mul_assoc a (2 ^ n) (2 ^ s)) in
    omega (arith, e, sym (mul_assoc v (2 ^ n - 1) (2 ^ s)), add-mul (a * 2 ^ n) (v * (2 ^ n - 1)) (2 ^ s))

-- what the code multiplies is small
pub run-room : (v run below : ℕ) → v < 2 → run ≤ 256 → below ≤ 256 → v * ((run - 1) * below) ≤ 65280
run-room v run below two r b =
    let a : run - 1 ≤ 255 = omega arith in
    let l : v ≤ 1 = omega arith in
    mul-le-mul l (mul-le-mul a b)

module _ (v n s x : ℕ) (two : v < 2) where
  put-high : (k : ℕ) → bit (s + k) (put_bits v n s x) ≡ bit k (x / 2 ^ (s + n) * 2 ^ n + v * (2 ^ n - 1))
  put-high k = ap (bit (s + k)) (put_parts v n s x) ∙ bit_above s k (x / 2 ^ (s + n) * 2 ^ n + v * (2 ^ n - 1)) (x % 2 ^ s) (mod-lt x (pow_pos s))

  pub put-inside : (j : ℕ) → s ≤ j → j < s + n → bit j (put_bits v n s x) ≡ v
  put-inside j l h =
      let e : j ≡ s + (j - s) = omega arith in
      ap (λ (q : ℕ). bit q (put_bits v n s x)) e ∙ put-high (j - s)
      ∙ bit-below n (j - s) (x / 2 ^ (s + n)) (v * (2 ^ n - 1)) (omega arith) ∙ filled_bit v n (j - s) two (omega arith)

  put-above : (j : ℕ) → s + n ≤ j → bit j (put_bits v n s x) ≡ bit j x
  unfolding bit
  put-above j h =
      let k = j - (s + n) in
      let e : j ≡ s + (n + k) = omega arith in
      let e' : s + n + k ≡ j = omega arith in
      ap (λ (q : ℕ). bit q (put_bits v n s x)) e ∙ put-high (n + k) ∙ bit_above n k (x / 2 ^ (s + n)) (v * (2 ^ n - 1)) (filled_lt v n two)
      ∙ ap (λ (q : ℕ). q % 2) (shr-shr x (s + n) k ∙ ap (λ (q : ℕ). x / 2 ^ q) e')

  put-below : (j : ℕ) → j < s → bit j (put_bits v n s x) ≡ bit j x
  put-below j h =
      ap (bit j) (put_parts v n s x) ∙ bit-below s j (x / 2 ^ (s + n) * 2 ^ n + v * (2 ^ n - 1)) (x % 2 ^ s) h
      ∙ sym (bit-below s j (x / 2 ^ s) (x % 2 ^ s) h) ∙ ap (bit j) (split x s)

  pub put-outside : (j : ℕ) → (j < s) ⊎ (s + n ≤ j) → bit j (put_bits v n s x) ≡ bit j x
  put-outside j h = ⊎_elim (put-below j) (put-above j) h

  -- it is a byte still
  pub put-lt : (m : ℕ) → s + n ≤ m → x < 2 ^ m → put_bits v n s x < 2 ^ m
  put-lt m l h =
      let d = m - (s + n) in
      let e : d + (s + n) ≡ m = omega arith in
      let top : x / 2 ^ (s + n) < 2 ^ d = shr_lt d (s + n) (subst (λ (q : ℕ). x < 2 ^ q) (sym e) h) in
      let p : 2 ^ d * 2 ^ n * 2 ^ s ≡ 2 ^ m = mul_assoc (2 ^ d) (2 ^ n) (2 ^ s) ∙ ap (λ (q : ℕ). 2 ^ d * q) (mul_comm (2 ^ n) (2 ^ s) ∙ sym (pow-add 2 s n)) ∙ sym (pow-add 2 d (s + n)) ∙ ap (λ (q : ℕ). 2 ^ q) e in
      rw (put_parts v n s x, ← p) (digits_lt (digits_lt top (filled_lt v n two)) (mod-lt x (pow_pos s)))

-- a run of no bits leaves the byte
pub put_no_bits : (v s x : ℕ) → put_bits v 0 s x ≡ x
put_no_bits v s x =
    put_parts v 0 s x
    ∙ rw (add-zero s, mul-zero v, mul-one (x / 2 ^ s), add-zero (x / 2 ^ s)) (split x s)

-- as the code adds it up, from v and the three powers of two
module _ {w v above below run : ℕ} (n s x : ℕ) (e : w ≡ v) (a : above ≡ 2 ^ (s + n)) (b : below ≡ 2 ^ s) (r : run ≡ 2 ^ n) where
  pub put-sum : x / above * above + w * ((run - 1) * below) + x % below ≡ put_bits v n s x
  unfolding put_bits
  put-sum = rw (e, a, b, r)

  pub put-sum-lt : w < 2 → s + n ≤ 8 → x < 256 → x / above * above + w * ((run - 1) * below) + x % below < 256
  put-sum-lt two l h = rw put-sum (put-lt v n s x (omega arith) 8 l h)

-- ---- a run of bits as one number

-- the highest bit b above the number a of the others, of which there are p: all are v where b is, and the others are
run_parts : (v b a p : ℕ) → v < 2 → b < 2 → a < p → b * p + a ≡ v * (2 * p - 1) → (a ≡ v * (p - 1)) × (b ≡ v)
run_parts zero zero a p hv hb ha e = omega arith
run_parts zero (suc zero) a p hv hb ha e = omega arith
run_parts zero (suc (suc b)) a p hv hb ha e = absurd (let z : ⊥ = omega arith in z)
run_parts (suc zero) zero a p hv hb ha e = omega arith
run_parts (suc zero) (suc zero) a p hv hb ha e = omega arith
run_parts (suc zero) (suc (suc b)) a p hv hb ha e = absurd (let z : ⊥ = omega arith in z)
run_parts (suc (suc v)) b a p hv hb ha e = absurd (let z : ⊥ = omega arith in z)

run-whole : (v a p : ℕ) → v < 2 → 0 < p → a ≡ v * (p - 1) → v * p + a ≡ v * (2 * p - 1)
run-whole zero a p hv hp e = omega arith
run-whole (suc zero) a p hv hp e = omega arith
run-whole (suc (suc v)) a p hv hp e = absurd (let z : ⊥ = omega arith in z)

run-more : (v b a p : ℕ) → v < 2 → b < 2 → a < p → eqb (b * p + a) (v * (2 * p - 1)) ≡ (eqb a (v * (p - 1)) && eqb b v)
run-more v b a p hv hb ha = same-test _ _ there back
  where
    there : eqb (b * p + a) (v * (2 * p - 1)) ≡ true → (eqb a (v * (p - 1)) && eqb b v) ≡ true
    there e = let r = run_parts v b a p hv hb ha (eqb-true _ _ e) in rw (eq-eqb a (v * (p - 1)) r.0, eq-eqb b v r.1)

    back : (eqb a (v * (p - 1)) && eqb b v) ≡ true → eqb (b * p + a) (v * (2 * p - 1)) ≡ true
    back e =
        let r = both (eqb a (v * (p - 1))) (eqb b v) e in
        eq-eqb _ _ (ap (λ (q : ℕ). q * p + a) (eqb-true b v r.1) ∙ run-whole v a p hv (omega arith) (eqb-true a (v * (p - 1)) r.0))

-- the number of the n + 1 low bits of y
low-more : (n y : ℕ) → y % 2 ^ (1 + n) ≡ y / 2 ^ n % 2 * 2 ^ n + y % 2 ^ n
low-more n y = mod-pow-add y 1 n

-- the n bits from s are all v: one test of their number
pub run-test : (v n s x : ℕ) → v < 2 → all (λ (k : ℕ). eqb (bit (s + k) x) v) n ≡ eqb (x / 2 ^ s % 2 ^ n) (v * (2 ^ n - 1))
unfolding bit
run-test v zero s x h = all-none _ ∙ sym (eq-eqb (x / 2 ^ s % 1) (v * 0) (omega arith))
run-test v (suc n) s x h =
    let y = x / 2 ^ s in
    let e : suc n ≡ n + 1 = omega arith in
    let e' : suc n ≡ 1 + n = omega arith in
    let b : x / 2 ^ (s + n) % 2 ≡ y / 2 ^ n % 2 = ap (λ (q : ℕ). q % 2) (sym (shr-shr x s n)) in
    ap (all (λ (k : ℕ). eqb (x / 2 ^ (s + k) % 2) v)) e ∙ all-more _ n
    ∙ rw (run-test v n s x h, b) (sym (run-more v (y / 2 ^ n % 2) (y % 2 ^ n) (2 ^ n) h (omega arith) (mod-lt y (pow_pos n))))
    ∙ ap (λ (q : ℕ). eqb q (v * (2 * 2 ^ n - 1))) (sym (low-more n y))
    ∙ ap (λ (q : ℕ). eqb (y % 2 ^ q) (v * (2 * 2 ^ n - 1))) (sym e')
    ∙ ap (λ (q : ℕ). eqb (y % 2 ^ suc n) (v * (q - 1))) (sym (pow-succ' 2 n))

-- ---- the bits of a byte that are 1

ones-bit : (b : ℕ) → b < 2 → ones b ≡ b
unfolding ones ones_in
ones-bit zero h = refl
ones-bit (suc zero) h = refl
ones-bit (suc (suc b)) h = absurd (let z : ⊥ = omega arith in z)

pub bits-ones : (n x : ℕ) → sum (λ (b : ℕ). bit b x) n ≡ ones (x % 2 ^ n)
unfolding bit
bits-ones zero x = sum-none _ ∙ sym (ap ones (omega arith) ∙ ones-bit 0 (omega arith))
bits-ones (suc n) x =
    let e : suc n ≡ n + 1 = omega arith in
    let e' : suc n ≡ 1 + n = omega arith in
    ap (sum (λ (b : ℕ). x / 2 ^ b % 2)) e ∙ sum-more _ n
    ∙ rw (bits-ones n x) (add_comm _ _)
    ∙ ap (λ (q : ℕ). q + ones (x % 2 ^ n)) (sym (ones-bit (x / 2 ^ n % 2) (omega arith)))
    ∙ sym (ones_cat n (x / 2 ^ n % 2) (x % 2 ^ n) (mod-lt x (pow_pos n)))
    ∙ ap ones (sym (low-more n x)) ∙ ap (λ (q : ℕ). ones (x % 2 ^ q)) (sym e')
