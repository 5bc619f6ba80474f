-- The bit macros: what a test of a map says, and what a store of a run of bits leaves. From `BitLaws`. Assumes nothing.
use mathlib.Core.Path.{◌≡◌, refl, sym, ap, subst, ◌∙◌}
use mathlib.Core.Bool.{true, false, not}
use mathlib.Core.List.{List}
use mathlib.Core.Logic.{◌⊎◌, inl, inr, ◌≢◌, ⊎_elim}
use Prim.Native.Nat.{ℕ, zero, suc, ◌+◌, ◌-◌, ◌*◌, ◌/◌, ◌%◌, ◌^◌, ◌<◌, ◌≤◌}
use native.Mathlib.Nat.{lt_of_lt_of_le, zero-mul}
use native.Mathlib.Decide.{dec_lt, ℕ_discrete}
use native.Mathlib.Omega.{arith}
use lib.Bits.{bit_and, bit_or}
use lib.Dec.{T, eqb, eqb-suc-zero}
use lib.ListN.{length, get_or, set}
use lib.Pow.{pow_pos, pow_mono, ones_lt, shl_lt}
use lib.Seq.{get_or-set_same, get_or-set_other, set_out}
use Rattle.headers.specs.Maps.{or_into, clear_in, isset, setbit, clrbit}
use Rattle.headers.proofs.BitLaws.{bit, ones, bit_lt, bit-read, bit-and, bit_or_lem, bit-not, ones_in, ones-out, run_masked}

-- ---- isset: bit i of a map is bit i % 8 of byte i / 8

not-zero : (k : ℕ) → 0 < k → eqb k 0 ≡ false
not-zero zero h = absurd (let z : ⊥ = omega arith in z)
not-zero (suc k) h = eqb-suc-zero k

tested : (v k : ℕ) → v < 2 → 0 < k → not (eqb (v * k) 0) ≡ eqb v 1
tested zero k l h = rw (zero-mul k)
tested (suc zero) k l h = rw (not-zero (1 * k) (omega arith))
tested (suc (suc v)) k l h = absurd (let z : ⊥ = omega arith in z)

one-bit : (s x : ℕ) → bit_and x (1 * 2 ^ s) ≡ bit s x * (1 * 2 ^ s)
one-bit s x = run_masked (bit s x) 1 s x (bit_lt s x) (λ i h. ap (λ (j : ℕ). bit j x) (omega arith))

pub isset-bit : (a : List ℕ) (i : ℕ) → isset a i ≡ eqb (bit (i % 8) (get_or a (i / 8) 0)) 1
unfolding isset
isset-bit a i =
    let x = get_or a (i / 8) 0 in
    ap (λ (k : ℕ). not (eqb k 0)) (one-bit (i % 8) x)
    ∙ tested (bit (i % 8) x) (1 * 2 ^ (i % 8)) (bit_lt (i % 8) x) (omega (arith, pow_pos (i % 8)))

-- the value of a test gives the bit
pub same-bit : (b v : ℕ) → b < 2 → v < 2 → eqb b 1 ≡ eqb v 1 → b ≡ v
same-bit zero zero l m e = refl
same-bit zero (suc zero) l m e = absurd (subst T (sym e) tt)
same-bit (suc zero) zero l m e = absurd (subst T e tt)
same-bit (suc zero) (suc zero) l m e = refl
same-bit (suc (suc b)) v l m e = absurd (let z : ⊥ = omega arith in z)
same-bit zero (suc (suc v)) l m e = absurd (let z : ⊥ = omega arith in z)
same-bit (suc zero) (suc (suc v)) l m e = absurd (let z : ⊥ = omega arith in z)

-- as code reads it
pub isset-read : (a : List ℕ) (i : ℕ) → isset a i ≡ eqb (get_or a (i / 8) 0 / 2 ^ (i % 8) % 2) 1
isset-read a i = isset-bit a i ∙ ap (λ (b : ℕ). eqb b 1) (bit-read (i % 8) (get_or a (i / 8) 0))

-- ---- a store of one byte, seen bit by bit

stored_in : (a : List ℕ) (k y i v : ℕ) → k < length a → i / 8 ≡ k → bit (i % 8) y ≡ v → isset (set a k y) i ≡ eqb v 1
stored_in a k y i v h q e =
    isset-bit (set a k y) i
    ∙ ap (λ (b : ℕ). eqb b 1) (ap (bit (i % 8)) (ap (λ (j : ℕ). get_or (set a k y) j 0) q ∙ get_or-set_same a k y 0 h) ∙ e)

stored_apart : (a : List ℕ) (k y i : ℕ) → (i / 8 ≡ k → bit (i % 8) y ≡ bit (i % 8) (get_or a k 0)) → isset (set a k y) i ≡ isset a i
stored_apart a k y i e = go (ℕ_discrete (i / 8) k) (dec_lt k (length a))
  where
    go : Dec (i / 8 ≡ k) → Dec (k < length a) → isset (set a k y) i ≡ isset a i
    go (no n) d =
        isset-bit (set a k y) i
        ∙ ap (λ (x : ℕ). eqb (bit (i % 8) x) 1) (get_or-set_other a k (i / 8) y 0 n)
        ∙ sym (isset-bit a i)
    go (yes q) (yes h) =
        stored_in a k y i (bit (i % 8) (get_or a k 0)) h q (e q)
        ∙ ap (λ (j : ℕ). eqb (bit (i % 8) (get_or a j 0)) 1) (sym q)
        ∙ sym (isset-bit a i)
    go (yes q) (no n) = ap (λ (l : List ℕ). isset l i) (set_out a k y (omega arith))

-- ---- a run of n bits from s in byte k, set and cleared

ones-byte : (n s : ℕ) → s + n ≤ 8 → ones n s < 256
ones-byte n s h = lt_of_lt_of_le (shl_lt n s (ones_lt n)) (pow_mono {j = 8} (omega arith))

module _ (a : List ℕ) (k n s i : ℕ) (fits : s + n ≤ 8) where
  pub or-in : k < length a → 8 * k + s ≤ i → i < 8 * k + s + n → isset (or_into a k (ones n s)) i ≡ true
  or-in h l m =
      let x = get_or a k 0 in
      stored_in a k (bit_or x (ones n s)) i 1 h (omega arith)
      (bit_or_lem (i % 8) x (ones n s) ∙ omega (arith, ones_in n s (i % 8) (omega arith) (omega arith), bit_lt (i % 8) x))

  pub clear_in_lem : k < length a → 8 * k + s ≤ i → i < 8 * k + s + n → isset (clear_in a k (ones n s)) i ≡ false
  clear_in_lem h l m =
      let x = get_or a k 0 in
      stored_in a k (bit_and x (0xff - ones n s)) i 0 h (omega arith)
      (bit-and (i % 8) x (0xff - ones n s)
      ∙ omega (arith, bit-not 8 (i % 8) (ones n s) (omega arith) (ones-byte n s fits), ones_in n s (i % 8) (omega arith) (omega arith)))

  pub or_apart : (i < 8 * k + s) ⊎ (8 * k + s + n ≤ i) → isset (or_into a k (ones n s)) i ≡ isset a i
  or_apart o =
      let x = get_or a k 0 in
      stored_apart a k (bit_or x (ones n s)) i
      (λ q. bit_or_lem (i % 8) x (ones n s) ∙ omega (arith, ones-out n s (i % 8) (⊎_elim (λ l. inl (omega arith)) (λ r. inr (omega arith)) o)))

  pub clear_apart : (i < 8 * k + s) ⊎ (8 * k + s + n ≤ i) → isset (clear_in a k (ones n s)) i ≡ isset a i
  clear_apart o =
      let x = get_or a k 0 in
      stored_apart a k (bit_and x (0xff - ones n s)) i
      (λ q.
      bit-and (i % 8) x (0xff - ones n s)
      ∙ omega (arith, bit_lt (i % 8) x, bit-not 8 (i % 8) (ones n s) (omega arith) (ones-byte n s fits), ones-out n s (i % 8) (⊎_elim (λ l. inl (omega arith)) (λ r. inr (omega arith)) o)))

-- ---- setbit and clrbit: the bit named, and every other

beside : (i j : ℕ) → j ≢ i → (j < 8 * (i / 8) + i % 8) ⊎ (8 * (i / 8) + i % 8 + 1 ≤ j)
beside i j n = go (dec_lt j i)
  where
    go : Dec (j < i) → (j < 8 * (i / 8) + i % 8) ⊎ (8 * (i / 8) + i % 8 + 1 ≤ j)
    go (yes l) = inl (omega arith)
    go (no l) = inr (omega arith)

pub setbit-same : (a : List ℕ) (i : ℕ) → i / 8 < length a → isset (setbit a i) i ≡ true
unfolding setbit
setbit-same a i h = or-in a (i / 8) 1 (i % 8) i (omega arith) h (omega arith) (omega arith)

pub setbit-other : (a : List ℕ) (i j : ℕ) → j ≢ i → isset (setbit a i) j ≡ isset a j
unfolding setbit
setbit-other a i j n = or_apart a (i / 8) 1 (i % 8) j (omega arith) (beside i j n)

pub clrbit-same : (a : List ℕ) (i : ℕ) → i / 8 < length a → isset (clrbit a i) i ≡ false
unfolding clrbit
clrbit-same a i h = clear_in_lem a (i / 8) 1 (i % 8) i (omega arith) h (omega arith) (omega arith)

pub clrbit-other : (a : List ℕ) (i j : ℕ) → j ≢ i → isset (clrbit a i) j ≡ isset a j
unfolding clrbit
clrbit-other a i j n = clear_apart a (i / 8) 1 (i % 8) j (omega arith) (beside i j n)
