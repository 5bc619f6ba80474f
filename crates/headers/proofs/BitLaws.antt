-- The bits of a number, by halving: what a mask holds, and what `&`, `|` and `~` do to each bit. From `lib.Bits`. Assumes nothing.
use mathlib.Core.Path.{◌≡◌, refl, sym, ap, ◌∙◌}
use mathlib.Core.Logic.{◌⊎◌, inl, inr, ◌↔◌}
use Prim.Native.Nat.{ℕ, zero, suc, ◌+◌, ◌-◌, ◌*◌, ◌/◌, ◌%◌, ◌^◌, ◌<◌, ◌≤◌, min, max}
use native.Mathlib.Nat.{add-zero, zero-add, suc-add, pow-succ', pow-suc, div-one, div-div-eq-div-mul, mul_assoc, eq_of_mul-eq-mul_right}
use native.Mathlib.Omega.{arith}
use lib.Arith.{mod-mul}
use lib.Bits.{bit_and, bit_or, and_step, or_step, and_high}
use lib.Dec.{lit<}
use lib.Pow.{pow_pos, high_ones}

-- bit b of x
unfoldable pub bit : ℕ → ℕ → ℕ
bit zero x = x % 2
bit (suc b) x = bit b (x / 2)

-- the n bits from s
abbrev pub ones : ℕ → ℕ → ℕ
ones n s = (2 ^ n - 1) * 2 ^ s

pub bit_lt : (b x : ℕ) → bit b x < 2
unfolding bit
bit_lt zero x = omega arith
bit_lt (suc b) x = bit_lt b (x / 2)

pub bit-shift : (s j x : ℕ) → bit (s + j) x ≡ bit j (x / 2 ^ s)
unfolding bit
bit-shift zero j x = rw (zero-add j, div-one x)
bit-shift (suc s) j x =
    rw (suc-add s j)
    (bit-shift s j (x / 2) ∙ ap (bit j) (div-div-eq-div-mul x 2 (2 ^ s) ∙ ap (λ (k : ℕ). x / k) (sym (pow-succ' 2 s))))

-- a bit as code reads it
pub bit-read : (b x : ℕ) → bit b x ≡ x / 2 ^ b % 2
unfolding bit
bit-read b x = ap (λ (k : ℕ). bit k x) (sym (add-zero b)) ∙ bit-shift b 0 x

-- ---- `&`, `|` and `~`, bit by bit

pub bit-and : (j a b : ℕ) → bit j (bit_and a b) ≡ min (bit j a) (bit j b)
unfolding bit
bit-and zero a b = rw (and_step a b) (omega arith)
bit-and (suc j) a b =
    ap (bit j) (rw (and_step a b) (omega arith)) ∙ bit-and j (a / 2) (b / 2)

pub bit_or_lem : (j a b : ℕ) → bit j (bit_or a b) ≡ max (bit j a) (bit j b)
unfolding bit
bit_or_lem zero a b = rw (or_step a b) (omega arith)
bit_or_lem (suc j) a b =
    ap (bit j) (rw (or_step a b) (omega arith)) ∙ bit_or_lem j (a / 2) (b / 2)

pub bit-not : (k j m : ℕ) → j < k → m < 2 ^ k → bit j (2 ^ k - 1 - m) ≡ 1 - bit j m
unfolding bit
bit-not zero j m h b = omega arith
bit-not (suc k) zero m h b = omega (arith, pow-succ' 2 k)
bit-not (suc k) (suc j) m h b =
    ap (bit j) (omega (arith, pow-succ' 2 k)) ∙ bit-not k j (m / 2) (omega arith) (omega (arith, pow-succ' 2 k))

-- ---- the bits of a mask

double : (n s : ℕ) → ones n (suc s) ≡ 2 * ones n s
double n s = rw (pow-succ' 2 s) (omega arith)

one-more : (n : ℕ) → ones (suc n) 0 ≡ 2 * ones n 0 + 1
one-more n = omega (arith, pow-succ' 2 n, pow_pos n)

bit-zero : (j : ℕ) → bit j 0 ≡ 0
unfolding bit
bit-zero zero = refl
bit-zero (suc j) = bit-zero j

pub ones_in : (n s j : ℕ) → s ≤ j → j < s + n → bit j (ones n s) ≡ 1
unfolding bit
ones_in zero zero j l h = absurd (let z : ⊥ = omega arith in z)
ones_in (suc n) zero zero l h = omega (arith, one-more n)
ones_in (suc n) zero (suc j) l h = ap (bit j) (omega (arith, one-more n)) ∙ ones_in n zero j (omega arith) (omega arith)
ones_in n (suc s) zero l h = absurd (let z : ⊥ = omega arith in z)
ones_in n (suc s) (suc j) l h = ap (bit j) (omega (arith, double n s)) ∙ ones_in n s j (omega arith) (omega arith)

pub ones-out : (n s j : ℕ) → (j < s) ⊎ (s + n ≤ j) → bit j (ones n s) ≡ 0
unfolding bit
ones-out zero zero j h = bit-zero j
ones-out (suc n) zero zero (inl h) = omega arith
ones-out (suc n) zero zero (inr h) = omega arith
ones-out (suc n) zero (suc j) (inl h) = omega arith
ones-out (suc n) zero (suc j) (inr h) = ap (bit j) (omega (arith, one-more n)) ∙ ones-out n zero j (inr (omega arith))
ones-out n (suc s) zero h = omega (arith, double n s)
ones-out n (suc s) (suc j) (inl h) = ap (bit j) (omega (arith, double n s)) ∙ ones-out n s j (inl (omega arith))
ones-out n (suc s) (suc j) (inr h) = ap (bit j) (omega (arith, double n s)) ∙ ones-out n s j (inr (omega arith))

-- ---- all bits of a run are v: as bits, and as a test of the number under a mask

mod_step : (n y : ℕ) → y % 2 ^ suc n ≡ (y / 2 % 2 ^ n) * 2 + y % 2
mod_step n y = rw (pow-suc 2 n) (mod-mul y (pow_pos n) (lit< tt))

twice : (v n : ℕ) → v * 2 ^ suc n ≡ 2 * (v * 2 ^ n)
twice v n = rw (pow-suc 2 n) (omega arith)

bits-low : (v n y : ℕ) → ((j : ℕ) → j < n → bit j y ≡ v) → y % 2 ^ n + v ≡ v * 2 ^ n
unfolding bit
bits-low v zero y a = omega arith
bits-low v (suc n) y a =
    omega (arith, mod_step n y, twice v n, a 0 (omega arith), bits-low v n (y / 2) (λ j h. a (suc j) (omega arith)))

low-bits : (v n y : ℕ) → v < 2 → y % 2 ^ n + v ≡ v * 2 ^ n → (j : ℕ) → j < n → bit j y ≡ v
unfolding bit
low-bits v zero y l e j h = absurd (let z : ⊥ = omega arith in z)
low-bits v (suc n) y l e zero h = omega (arith, mod_step n y, twice v n)
low-bits v (suc n) y l e (suc j) h = low-bits v n (y / 2) l (omega (arith, mod_step n y, twice v n)) j (omega arith)

-- the number of a run whose bits are all v
full : (v n k : ℕ) → v < 2 → (k + v ≡ v * 2 ^ n) ↔ (k ≡ v * (2 ^ n - 1))
full zero n k l = (λ e. omega arith, λ e. omega arith)
full (suc zero) n k l = (λ e. omega arith, λ e. omega (arith, pow_pos n))
full (suc (suc v)) n k l = absurd (let z : ⊥ = omega arith in z)

and-ones : (n s x : ℕ) → bit_and x (ones n s) ≡ x / 2 ^ s % 2 ^ n * 2 ^ s
and-ones n s x = ap (bit_and x) (sym (high_ones n s)) ∙ and_high x n s

pub run_masked : (v n s x : ℕ) → v < 2 → ((i : ℕ) → i < n → bit (s + i) x ≡ v) → bit_and x (ones n s) ≡ v * ones n s
run_masked v n s x l a =
    let e = (full v n (x / 2 ^ s % 2 ^ n) l).0 (bits-low v n (x / 2 ^ s) (λ i h. sym (bit-shift s i x) ∙ a i h)) in
    and-ones n s x ∙ ap (λ (k : ℕ). k * 2 ^ s) e ∙ mul_assoc v (2 ^ n - 1) (2 ^ s)

pub masked_run : (v n s x : ℕ) → v < 2 → bit_and x (ones n s) ≡ v * ones n s → (i : ℕ) → i < n → bit (s + i) x ≡ v
masked_run v n s x l e i h =
    let k : x / 2 ^ s % 2 ^ n ≡ v * (2 ^ n - 1) =
    eq_of_mul-eq-mul_right (2 ^ s) (pow_pos s) (x / 2 ^ s % 2 ^ n) (v * (2 ^ n - 1)) (sym (and-ones n s x) ∙ e ∙ sym (mul_assoc v (2 ^ n - 1) (2 ^ s))) in
    bit-shift s i x ∙ low-bits v n (x / 2 ^ s) l ((full v n (x / 2 ^ s % 2 ^ n) l).1 k) i h
