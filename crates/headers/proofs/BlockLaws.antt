-- ffs_subr.c's rules for the fragments of a block, told bit by bit: the four arms are one rule, on the bits from h * frag of one byte. From `MapLaws`. Assumes nothing.
use mathlib.Core.Path.{◌≡◌, refl, sym, ap, ap₂, subst, ◌∙◌}
use mathlib.Core.Bool.{Bool, true, false, not}
use mathlib.Core.List.{List}
use mathlib.Core.Logic.{◌⊎◌, inl, inr, ◌↔◌, ⊎_elim}
use Prim.Native.Nat.{ℕ, ◌+◌, ◌*◌, ◌/◌, ◌%◌, ◌<◌, ◌≤◌}
use native.Mathlib.Nat.{mod-eq_of_lt, zero-mul, one-mul}
use native.Mathlib.Omega.{arith}
use lib.Bits.{bit_and, bit_or, and_mask, and_zero_r, or_add_and}
use lib.Dec.{T, eqb, eqb→eq, eqb_refl, lit<}
use lib.ListN.{length, get_or, set}
use Rattle.field.specs.Field.{Bytes}
use Rattle.headers.specs.Maps.{holds, lacks, or_into, clear_in, isset, Frag, eight, four, two, one, frags, isblock, isfreeblock, setblock, clrblock}
use Rattle.headers.proofs.BitLaws.{bit, ones, bit_lt, run_masked, masked_run}
use Rattle.headers.proofs.MapLaws.{isset-bit, same-bit, or-in, clear_in_lem, or_apart, clear_apart}

-- the byte and the shift of an arm's mask are those of bit h * n
record At (h n k s : ℕ) : Type 0 where
  byte : k ≡ h * n / 8
  shift : s ≡ h * n % 8

at_four : (h : ℕ) → At h 4 (h / 2) (bit_and h 1 * 4)
at_four h = record { byte = omega arith; shift = omega (arith, and_mask h 1) }

at-two : (h : ℕ) → At h 2 (h / 4) (bit_and h 3 * 2)
at-two h = record { byte = omega arith; shift = omega (arith, and_mask h 2) }

at-one : (h : ℕ) → At h 1 (h / 8) (bit_and h 7)
at-one h = record { byte = omega arith; shift = omega (arith, and_mask h 3) }

at_eight : (h : ℕ) → At h 8 h 0
at_eight h = record { byte = omega arith; shift = omega arith }

moved {ℓ} : {A : Type ℓ} {h n k s : ℕ} (f : ℕ → ℕ → A) → At h n k s → f k s ≡ f (h * n / 8) (h * n % 8)
moved f p = ap₂ f p.byte p.shift

whole : (x : ℕ) → x < 256 → bit_and x 0xff ≡ x
whole x b = and_mask x 8 ∙ mod-eq_of_lt b

filled : (x : ℕ) → x < 256 → bit_or x 0xff ≡ 0xff
filled x b = omega (arith, or_add_and x 0xff, whole x b)

module _ (cp : List ℕ) (h : ℕ) where
  isblock-masked : (f : Frag) → Bytes cp → isblock f cp h ≡ holds (get_or cp (h * frags f / 8) 0) (ones (frags f) (h * frags f % 8))
  unfolding isblock frags
  isblock-masked eight b =
      ap (λ (x : ℕ). eqb x 0xff) (sym (whole (get_or cp h 0) (b h))) ∙ moved (λ (k s : ℕ). holds (get_or cp k 0) (ones 8 s)) (at_eight h)
  isblock-masked four b = moved (λ (k s : ℕ). holds (get_or cp k 0) (ones 4 s)) (at_four h)
  isblock-masked two b = moved (λ (k s : ℕ). holds (get_or cp k 0) (ones 2 s)) (at-two h)
  isblock-masked one b = moved (λ (k s : ℕ). holds (get_or cp k 0) (ones 1 s)) (at-one h)

  isfreeblock-masked : (f : Frag) → Bytes cp → isfreeblock f cp h ≡ lacks (get_or cp (h * frags f / 8) 0) (ones (frags f) (h * frags f % 8))
  unfolding isfreeblock frags
  isfreeblock-masked eight b =
      ap (λ (x : ℕ). eqb x 0) (sym (whole (get_or cp h 0) (b h))) ∙ moved (λ (k s : ℕ). lacks (get_or cp k 0) (ones 8 s)) (at_eight h)
  isfreeblock-masked four b = moved (λ (k s : ℕ). lacks (get_or cp k 0) (ones 4 s)) (at_four h)
  isfreeblock-masked two b = moved (λ (k s : ℕ). lacks (get_or cp k 0) (ones 2 s)) (at-two h)
  isfreeblock-masked one b = moved (λ (k s : ℕ). lacks (get_or cp k 0) (ones 1 s)) (at-one h)

  setblock-masked : (f : Frag) → Bytes cp → setblock f cp h ≡ or_into cp (h * frags f / 8) (ones (frags f) (h * frags f % 8))
  unfolding setblock frags
  setblock-masked eight b =
      ap (set cp h) (sym (filled (get_or cp h 0) (b h))) ∙ moved (λ (k s : ℕ). or_into cp k (ones 8 s)) (at_eight h)
  setblock-masked four b = moved (λ (k s : ℕ). or_into cp k (ones 4 s)) (at_four h)
  setblock-masked two b = moved (λ (k s : ℕ). or_into cp k (ones 2 s)) (at-two h)
  setblock-masked one b = moved (λ (k s : ℕ). or_into cp k (ones 1 s)) (at-one h)

  clrblock-masked : (f : Frag) → clrblock f cp h ≡ clear_in cp (h * frags f / 8) (ones (frags f) (h * frags f % 8))
  unfolding clrblock frags
  clrblock-masked eight =
      ap (set cp h) (sym (and_zero_r (get_or cp h 0))) ∙ moved (λ (k s : ℕ). clear_in cp k (ones 8 s)) (at_eight h)
  clrblock-masked four = moved (λ (k s : ℕ). clear_in cp k (ones 4 s)) (at_four h)
  clrblock-masked two = moved (λ (k s : ℕ). clear_in cp k (ones 2 s)) (at-two h)
  clrblock-masked one = moved (λ (k s : ℕ). clear_in cp k (ones 1 s)) (at-one h)

-- a block lies in one byte
in_byte : (f : Frag) (h : ℕ) → h * frags f % 8 + frags f ≤ 8
unfolding frags
in_byte eight h = omega arith
in_byte four h = omega arith
in_byte two h = omega arith
in_byte one h = omega arith

-- the case of a number of fragments
pub frag-of : (n : ℕ) → (n ≡ 8) ⊎ ((n ≡ 4) ⊎ ((n ≡ 2) ⊎ (n ≡ 1))) → (f : Frag) × (frags f ≡ n)
unfolding frags
frag-of n (inl e) = (eight, sym e)
frag-of n (inr (inl e)) = (four, sym e)
frag-of n (inr (inr (inl e))) = (two, sym e)
frag-of n (inr (inr (inr e))) = (one, sym e)

-- ---- the tests: all bits of a run are v, as bits and under a mask

module _ (v n q : ℕ) (cp : List ℕ) (two-valued : v < 2) (fits : q % 8 + n ≤ 8) where
  isset-at : (i : ℕ) → i < n → isset cp (q + i) ≡ eqb (bit (q % 8 + i) (get_or cp (q / 8) 0)) 1
  isset-at i h =
      isset-bit cp (q + i)
      ∙ ap₂ (λ (k s : ℕ). eqb (bit s (get_or cp k 0)) 1) (omega arith) (omega arith)

  masked-told : bit_and (get_or cp (q / 8) 0) (ones n (q % 8)) ≡ v * ones n (q % 8) → (i : ℕ) → i < n → isset cp (q + i) ≡ eqb v 1
  masked-told e i h =
      isset-at i h ∙ ap (λ (b : ℕ). eqb b 1) (masked_run v n (q % 8) (get_or cp (q / 8) 0) two-valued e i h)

  told-masked : ((i : ℕ) → i < n → isset cp (q + i) ≡ eqb v 1) → bit_and (get_or cp (q / 8) 0) (ones n (q % 8)) ≡ v * ones n (q % 8)
  told-masked t =
      let x = get_or cp (q / 8) 0 in
      run_masked v n (q % 8) x two-valued
      (λ i h. same-bit (bit (q % 8 + i) x) v (bit_lt (q % 8 + i) x) two-valued (sym (isset-at i h) ∙ t i h))

is-true : (b : Bool) → T b → b ≡ true
is-true true t = refl
is-true false t = absurd t

is-false : (b : Bool) → T (not b) → b ≡ false
is-false true t = absurd t
is-false false t = refl

module _ (f : Frag) (cp : List ℕ) (h : ℕ) (bytes : Bytes cp) where
  -- ffs_isblock: every fragment of block h is set
  pub isblock-bits : T (isblock f cp h) ↔ ((i : ℕ) → i < frags f → T (isset cp (h * frags f + i)))
  isblock-bits =
      let mask = ones (frags f) (h * frags f % 8) in (
        λ t i l.
            rw (masked-told 1 (frags f) (h * frags f) cp (lit< tt) (in_byte f h) (eqb→eq _ mask (subst T (isblock-masked cp h f bytes) t) ∙ sym (one-mul mask)) i l) tt,
        λ a.
            let e = told-masked 1 (frags f) (h * frags f) cp (lit< tt) (in_byte f h) (λ i l. is-true _ (a i l)) ∙ one-mul mask in
            rw (isblock-masked cp h f bytes, e) (eqb_refl mask),
      )

  -- ffs_isfreeblock: none is
  pub isfreeblock-bits : T (isfreeblock f cp h) ↔ ((i : ℕ) → i < frags f → T (not (isset cp (h * frags f + i))))
  isfreeblock-bits =
      let mask = ones (frags f) (h * frags f % 8) in (
        λ t i l.
            rw (masked-told 0 (frags f) (h * frags f) cp (lit< tt) (in_byte f h) (eqb→eq _ 0 (subst T (isfreeblock-masked cp h f bytes) t) ∙ sym (zero-mul mask)) i l) tt,
        λ a.
            let e = told-masked 0 (frags f) (h * frags f) cp (lit< tt) (in_byte f h) (λ i l. is-false _ (a i l)) ∙ zero-mul mask in
            rw (isfreeblock-masked cp h f bytes, e) tt,
      )

  -- ffs_setblock and ffs_clrblock: the fragments of block h, and every other
  pub setblock-in : (i : ℕ) → h * frags f / 8 < length cp → h * frags f ≤ i → i < h * frags f + frags f → isset (setblock f cp h) i ≡ true
  setblock-in i k l m =
      ap (λ (xs : List ℕ). isset xs i) (setblock-masked cp h f bytes)
      ∙ or-in cp (h * frags f / 8) (frags f) (h * frags f % 8) i (in_byte f h) k (omega arith) (omega arith)

  pub setblock-out : (i : ℕ) → (i < h * frags f) ⊎ (h * frags f + frags f ≤ i) → isset (setblock f cp h) i ≡ isset cp i
  setblock-out i o =
      ap (λ (xs : List ℕ). isset xs i) (setblock-masked cp h f bytes)
      ∙ or_apart cp (h * frags f / 8) (frags f) (h * frags f % 8) i (in_byte f h) (⊎_elim (λ l. inl (omega arith)) (λ r. inr (omega arith)) o)

  pub clrblock-in : (i : ℕ) → h * frags f / 8 < length cp → h * frags f ≤ i → i < h * frags f + frags f → isset (clrblock f cp h) i ≡ false
  clrblock-in i k l m =
      ap (λ (xs : List ℕ). isset xs i) (clrblock-masked cp h f)
      ∙ clear_in_lem cp (h * frags f / 8) (frags f) (h * frags f % 8) i (in_byte f h) k (omega arith) (omega arith)

  pub clrblock-out : (i : ℕ) → (i < h * frags f) ⊎ (h * frags f + frags f ≤ i) → isset (clrblock f cp h) i ≡ isset cp i
  clrblock-out i o =
      ap (λ (xs : List ℕ). isset xs i) (clrblock-masked cp h f)
      ∙ clear_apart cp (h * frags f / 8) (frags f) (h * frags f % 8) i (in_byte f h) (⊎_elim (λ l. inl (omega arith)) (λ r. inr (omega arith)) o)
