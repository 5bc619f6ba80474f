-- The maps are those of the header: a bit, a block, and what is stored, against isset, setbit, clrbit, ffs_isblock, ffs_setblock and their kin. Assumes nothing.
use mathlib.Core.Path.{◌≡◌, refl, sym, ap, subst, ◌∙◌}
use mathlib.Core.Bool.{Bool, true, false, not}
use mathlib.Core.List.{List}
use mathlib.Core.Logic.{◌⊎◌, inl, inr, ◌↔◌}
use Prim.Native.Nat.{ℕ, zero, suc, ◌+◌, ◌*◌, ◌/◌, ◌%◌, ◌≤◌, ◌<◌}
use native.Mathlib.Nat.{mul_comm}
use native.Mathlib.Omega.{arith}
use native.Mathlib.Decide.{dec_lt}
use borrow.Author.Tests.{eq-eqb, eqb-true, eqb-false, ne_eqb}
use lib.Dec.{T, eqb}
use lib.ListN.{length}
use Rattle.field.specs.Field.{part, Bytes}
use Rattle.field.proofs.Laws.{get_or-part, length-part, part-bytes}
use Rattle.headers.specs.Maps.{isset, setbit, clrbit, Frag, frags, isblock, isfreeblock, setblock, clrblock}
use Rattle.headers.proofs.MapLaws.{isset-read, setbit-same, setbit-other, clrbit-same, clrbit-other}
use Rattle.headers.proofs.BlockLaws.{isblock-bits, isfreeblock-bits, setblock-in, setblock-out, clrblock-in, clrblock-out}
use Rattle.bits.specs.Bits.{frag_free, bit_at, block_free, block_full, put_bits_at}
use Rattle.bits.proofs.BitsLaws.{frag-free, free-bit, bit_at-two, bits_at, bits-hold, free-bits, full-bits, bit_at-inside, bit_at-outside, length-put_bits_at}

T-true : (b : Bool) → T b → b ≡ true
T-true true t = refl
T-true false t = absurd t

true-T : (b : Bool) → b ≡ true → T b
true-T b e = subst T (sym e) tt

not-one : (b : ℕ) → b < 2 → (b ≡ 1 → ⊥) → b ≡ 0
not-one zero l q = refl
not-one (suc zero) l q = absurd (q refl)
not-one (suc (suc b)) l q = absurd (let z : ⊥ = omega arith in z)

-- a map of n bytes at `at`, as the header's list of bytes
module _ (n at : ℕ) (img : List ℕ) (room : at + n ≤ length img) where
  -- ---- reading

  pub isset-is : (f : ℕ) → f / 8 < n → isset (part n at img) f ≡ frag_free img at f
  isset-is f l = isset-read (part n at img) f ∙ rw (get_or-part n at img (f / 8) l) (frag-free img at f)

  -- a set bit is 1, a clear one 0
  set-one : (f : ℕ) → f / 8 < n → T (isset (part n at img) f) → bit_at img at f ≡ 1
  set-one f l t = eqb-true _ 1 (sym (free-bit img at f) ∙ sym (isset-is f l) ∙ T-true _ t)

  one_set : (f : ℕ) → f / 8 < n → bit_at img at f ≡ 1 → T (isset (part n at img) f)
  one_set f l e = true-T _ (isset-is f l ∙ free-bit img at f ∙ eq-eqb _ 1 e)

  clear_zero : (f : ℕ) → f / 8 < n → T (not (isset (part n at img) f)) → bit_at img at f ≡ 0
  clear_zero f l t = go (isset (part n at img) f) refl t
    where
      go : (b : Bool) → isset (part n at img) f ≡ b → T (not b) → bit_at img at f ≡ 0
      go true e t = absurd t
      go false e t = not-one (bit_at img at f) (bit_at-two img at f) (eqb-false (bit_at img at f) 1 (sym (free-bit img at f) ∙ sym (isset-is f l) ∙ e))

  zero_clear : (f : ℕ) → f / 8 < n → bit_at img at f ≡ 0 → T (not (isset (part n at img) f))
  zero_clear f l e = true-T _ (ap not (isset-is f l ∙ free-bit img at f ∙ ne_eqb (bit_at img at f) 1 (λ q. let w : bit_at img at f ≡ 1 = q in let z : ⊥ = omega arith in z)))

  module _ (F : Frag) (h : ℕ) (byte : Bytes img) (l : (frags F * h + frags F + 7) / 8 ≤ n) where
    place : (i : ℕ) → i < frags F → (frags F * h + i) / 8 < n
    place i b = omega arith

    -- ffs_isblock: a free block, and ffs_isfreeblock (its name in ffs_subr.c): one with no free fragment
    pub isblock-is : T (isblock F (part n at img) h) ↔ (block_free (frags F) img at h ≡ true)
    isblock-is = (
      λ t. free-bits (frags F) img at h ∙ bits-hold 1 img at (frags F * h) (frags F)
          (λ i b. set-one (frags F * h + i) (place i b) (subst (λ (x : ℕ). T (isset (part n at img) (x + i))) (mul_comm h (frags F)) ((isblock-bits F (part n at img) h (part-bytes n at img byte)).0 t i b))),
      λ e. (isblock-bits F (part n at img) h (part-bytes n at img byte)).1
          (λ i b. subst (λ (x : ℕ). T (isset (part n at img) (x + i))) (mul_comm (frags F) h)
          (one_set (frags F * h + i) (place i b) (bits_at 1 img at (frags F * h) (frags F) i (sym (free-bits (frags F) img at h) ∙ e) b))),
    )

    pub isfreeblock-is : T (isfreeblock F (part n at img) h) ↔ (block_full (frags F) img at h ≡ true)
    isfreeblock-is = (
      λ t. full-bits (frags F) img at h ∙ bits-hold 0 img at (frags F * h) (frags F)
          (λ i b. clear_zero (frags F * h + i) (place i b) (subst (λ (x : ℕ). T (not (isset (part n at img) (x + i)))) (mul_comm h (frags F)) ((isfreeblock-bits F (part n at img) h (part-bytes n at img byte)).0 t i b))),
      λ e. (isfreeblock-bits F (part n at img) h (part-bytes n at img byte)).1
          (λ i b. subst (λ (x : ℕ). T (not (isset (part n at img) (x + i)))) (mul_comm (frags F) h)
          (zero_clear (frags F * h + i) (place i b) (bits_at 0 img at (frags F * h) (frags F) i (sym (full-bits (frags F) img at h) ∙ e) b))),
    )

-- ---- writing: bit by bit, what is stored is what the header's macros store

module _ (n at : ℕ) (img : List ℕ) (room : at + n ≤ length img) (v f m : ℕ) (two : v < 2) (in_byte : f % 8 + m ≤ 8) (in_map : f / 8 < n) where
  stored-inside : (j : ℕ) → j / 8 < n → f ≤ j → j < f + m → isset (part n at (put_bits_at v img at f m)) j ≡ eqb v 1
  stored-inside j b l u =
      isset-is n at (put_bits_at v img at f m) (omega (arith, length-put_bits_at v img at f m)) j b
      ∙ free-bit (put_bits_at v img at f m) at j
      ∙ ap (λ (x : ℕ). eqb x 1) (bit_at-inside v img at f m two in_byte (omega arith) j l u)

  stored-outside : (j : ℕ) → j / 8 < n → (j < f) ⊎ (f + m ≤ j) → isset (part n at (put_bits_at v img at f m)) j ≡ isset (part n at img) j
  stored-outside j b o =
      isset-is n at (put_bits_at v img at f m) (omega (arith, length-put_bits_at v img at f m)) j b
      ∙ free-bit (put_bits_at v img at f m) at j
      ∙ ap (λ (x : ℕ). eqb x 1) (bit_at-outside v img at f m two in_byte (omega arith) j o)
      ∙ sym (free-bit img at j) ∙ sym (isset-is n at img room j b)

  -- so a list whose run is v and whose other bits are as they were has the same bits
  pub stored-as : (xs : List ℕ) → ((j : ℕ) → f ≤ j → j < f + m → isset xs j ≡ eqb v 1) → ((j : ℕ) → (j < f) ⊎ (f + m ≤ j) → isset xs j ≡ isset (part n at img) j)
      → (j : ℕ) → j / 8 < n → isset (part n at (put_bits_at v img at f m)) j ≡ isset xs j
  stored-as xs inn out j b = go (dec_lt j f) (dec_lt j (f + m))
    where
      go : Dec (j < f) → Dec (j < f + m) → isset (part n at (put_bits_at v img at f m)) j ≡ isset xs j
      go (yes l) d = stored-outside j b (inl l) ∙ sym (out j (inl l))
      go (no l) (yes u) = stored-inside j b (omega arith) u ∙ sym (inn j (omega arith) u)
      go (no l) (no u) = let w : f + m ≤ j = omega arith in stored-outside j b (inr w) ∙ sym (out j (inr w))

module _ (n at : ℕ) (img : List ℕ) (room : at + n ≤ length img) (f : ℕ) (in_map : f / 8 < n) where
  one_place : (j : ℕ) → f ≤ j → j < f + 1 → j ≡ f
  one_place j l u = omega arith

  not_there : (j : ℕ) → (j < f) ⊎ (f + 1 ≤ j) → j ≡ f → ⊥
  not_there j (inl l) e = let z : ⊥ = omega arith in z
  not_there j (inr l) e = let z : ⊥ = omega arith in z

  pub setbit-is : (j : ℕ) → j / 8 < n → isset (part n at (put_bits_at 1 img at f 1)) j ≡ isset (setbit (part n at img) f) j
  setbit-is =
      stored-as n at img room 1 f 1 (omega arith) (omega arith) in_map (setbit (part n at img) f)
      (λ j l u. rw (one_place j l u) (setbit-same (part n at img) f (omega (arith, length-part n at img room))))
      (λ j o. setbit-other (part n at img) f j (not_there j o))

  pub clrbit-is : (j : ℕ) → j / 8 < n → isset (part n at (put_bits_at 0 img at f 1)) j ≡ isset (clrbit (part n at img) f) j
  clrbit-is =
      stored-as n at img room 0 f 1 (omega arith) (omega arith) in_map (clrbit (part n at img) f)
      (λ j l u. rw (one_place j l u) (clrbit-same (part n at img) f (omega (arith, length-part n at img room))))
      (λ j o. clrbit-other (part n at img) f j (not_there j o))

module _ (n at : ℕ) (img : List ℕ) (room : at + n ≤ length img) (byte : Bytes img) (F : Frag) (h : ℕ) (in_byte : h * frags F % 8 + frags F ≤ 8) (in_map : h * frags F / 8 < n) where
  pub setblock-is : (j : ℕ) → j / 8 < n → isset (part n at (put_bits_at 1 img at (h * frags F) (frags F))) j ≡ isset (setblock F (part n at img) h) j
  setblock-is =
      stored-as n at img room 1 (h * frags F) (frags F) (omega arith) in_byte in_map (setblock F (part n at img) h)
      (λ j l u. setblock-in F (part n at img) h (part-bytes n at img byte) j (omega (arith, length-part n at img room)) l u)
      (λ j o. setblock-out F (part n at img) h (part-bytes n at img byte) j o)

  pub clrblock-is : (j : ℕ) → j / 8 < n → isset (part n at (put_bits_at 0 img at (h * frags F) (frags F))) j ≡ isset (clrblock F (part n at img) h) j
  clrblock-is =
      stored-as n at img room 0 (h * frags F) (frags F) (omega arith) in_byte in_map (clrblock F (part n at img) h)
      (λ j l u. clrblock-in F (part n at img) h (part-bytes n at img byte) j (omega (arith, length-part n at img room)) l u)
      (λ j o. clrblock-out F (part n at img) h (part-bytes n at img byte) j o)
