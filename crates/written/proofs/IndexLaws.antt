-- The place of an index in the file's tree. Assumes nothing.
use mathlib.Core.Path.{◌≡◌, refl, sym, ap, subst, ◌∙◌}
use mathlib.Core.Bool.{Bool, true, false}
use Prim.Native.Nat.{ℕ, suc, ◌+◌, ◌-◌, ◌^◌, ◌≤◌, ◌<◌}
use native.Mathlib.Nat.{pow-zero}
use native.Mathlib.Omega.{arith}
use native.Mathlib.Decide.{dec_lt, ℕ_discrete}
use lib.Dec.{ltb}
use borrow.Author.Tests.{lt-ltb, le-ltb, ltb-true, ltb-false}
use Rattle.inode.specs.Size.{pick}
use Rattle.mapping.specs.declared.Place.{Place}
use Rattle.mapping.specs.declared.Place.TheVariants.{Under, Past}
use Rattle.mapping.specs.Zones.{zone_start, place_of}
use Rattle.mapping.proofs.ZoneLaws.{start-one, start-two, start-three, start-four, place-direct, place-first, place-second, place-third}
use Rattle.written.specs.Own.{levels, block_index}

-- its level is that of its root, and its number under the root is that of the index
Fits : ℕ → ℕ → Place → Type 0
Fits p i (Under root level rest) = (level ≡ levels root) × (block_index p root rest.0 ≡ i) × (level ≡ 0 → rest.0 ≡ 0)
Fits p i Past = Unit {0}

below_or : (P : Place → Type 0) (i n : ℕ) (x y : Place) → (i < n → P x) → (n ≤ i → P y) → P (pick (ltb i n) x y)
below_or P i n x y h k = by (ltb i n) refl
  where
    by : (b : Bool) → ltb i n ≡ b → P (pick b x y)
    by true e = h (ltb-true i n e)
    by false e = k (ltb-false i n e)

place-fits : (p i : ℕ) → Fits p i (place_of p i)
unfolding place_of Fits
place-fits p i =
    rw (start-one p, start-two p, start-three p, start-four p)
    (below_or (Fits p i) i 12 _ _ (λ h. (omega arith, rw (lt-ltb i 12 h) refl, λ _. refl))
    (λ a. below_or (Fits p i) i (12 + p ^ 1) _ _ (λ h. (refl, rw (start-one p) (omega arith), λ z. absurd (let f : ⊥ = omega arith in f)))
    (λ a. below_or (Fits p i) i (12 + p ^ 1 + p ^ 2) _ _ (λ h. (refl, rw (start-two p) (omega arith), λ z. absurd (let f : ⊥ = omega arith in f)))
    (λ a. below_or (Fits p i) i (12 + p ^ 1 + p ^ 2 + p ^ 3) _ _ (λ h. (refl, rw (start-three p) (omega arith), λ z. absurd (let f : ⊥ = omega arith in f))) (λ _. tt {0})))))

pub place_level : (p i root level : ℕ) {rest : _} → Under root level rest ≡ place_of p i → (level ≡ levels root) × (block_index p root rest.0 ≡ i) × (level ≡ 0 → rest.0 ≡ 0)
unfolding Fits
place_level p i root level {rest} e = let g : Fits p i (Under root level rest) = subst (Fits p i) (sym e) (place-fits p i) in (g.0, g.1, g.2)

-- ---- and back

under-same : {r s d e q k : ℕ} → r ≡ s → d ≡ e → q ≡ k → Under r d (record { 0 = q }) ≡ Under s e (record { 0 = k })
under-same a b c = λ i. Under (a i) (b i) (record { 0 = c i })

module _ (p r d q : ℕ) (e : d ≡ levels r) (b : q < p ^ d) where
  direct-index : r < 12 → block_index p r q ≡ r
  direct-index l = rw (lt-ltb r 12 l) refl

  zone-index : 12 ≤ r → block_index p r q ≡ zone_start p (r - 11) + q
  zone-index l = rw (le-ltb r 12 l) refl

  -- in zone l the index begins at s
  zone-at : (l s : ℕ) → r ≡ 11 + suc l → zone_start p (suc l) ≡ s → (block_index p r q ≡ s + q) × (q < p ^ suc l)
  zone-at l s h z =
      let deep : r - 11 ≡ suc l = omega (arith, h) in
      (zone-index (omega (arith, h)) ∙ ap (λ (n : ℕ). zone_start p n + q) deep ∙ ap (λ (n : ℕ). n + q) z, subst (λ (n : ℕ). q < p ^ n) (e ∙ deep) b)

  direct-place : r < 12 → Under r d (record { 0 = q }) ≡ place_of p (block_index p r q)
  direct-place l =
      let flat : d ≡ 0 = omega (arith, e, l) in
      let none : q ≡ 0 = (let w = rw (flat, pow-zero p) at b in omega (arith, w)) in
      under-same refl flat none ∙ place-direct p r l ∙ ap (place_of p) (sym (direct-index l))

  first-place : r ≡ 12 → Under r d (record { 0 = q }) ≡ place_of p (block_index p r q)
  first-place h =
      let z = zone-at 0 12 (omega (arith, h)) (start-one p) in
      let n = 12 + q in
      let w : q < p ^ 1 = z.1 in
      under-same h (omega (arith, e, h)) (omega arith) ∙ place-first p n (omega arith) (p ^ 1) refl (omega (arith, w)) ∙ ap (place_of p) (sym z.0)

  second-place : r ≡ 13 → Under r d (record { 0 = q }) ≡ place_of p (block_index p r q)
  second-place h =
      let z = zone-at 1 (12 + p ^ 1) (omega (arith, h)) (start-two p) in
      let n = 12 + p ^ 1 + q in
      let w : q < p ^ 2 = z.1 in
      under-same h (omega (arith, e, h)) (omega arith) ∙ place-second p n (omega arith) (p ^ 1) refl (omega arith) (p ^ 2) refl (omega (arith, w)) ∙ ap (place_of p) (sym z.0)

  third-place : r ≡ 14 → Under r d (record { 0 = q }) ≡ place_of p (block_index p r q)
  third-place h =
      let z = zone-at 2 (12 + p ^ 1 + p ^ 2) (omega (arith, h)) (start-three p) in
      let n = 12 + p ^ 1 + p ^ 2 + q in
      let w : q < p ^ 3 = z.1 in
      under-same h (omega (arith, e, h)) (omega arith) ∙ place-third p n (omega arith) (p ^ 1) refl (omega arith) (p ^ 2) refl (omega arith) (p ^ 3) refl (omega (arith, w)) ∙ ap (place_of p) (sym z.0)

  -- every place of data is that of its index
  pub index_back : r < 15 → Under r d (record { 0 = q }) ≡ place_of p (block_index p r q)
  index_back l = go (dec_lt r 12) (ℕ_discrete r 12) (ℕ_discrete r 13)
    where
      go : Dec (r < 12) → Dec (r ≡ 12) → Dec (r ≡ 13) → Under r d (record { 0 = q }) ≡ place_of p (block_index p r q)
      go (yes a) y z = direct-place a
      go (no a) (yes y) z = first-place y
      go (no a) (no y) (yes z) = second-place z
      go (no a) (no y) (no z) = third-place (omega (arith, a, y, z, l))
