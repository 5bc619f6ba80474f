-- Laws of the zones: their beginnings, the cases of `place_of`, and that each index below the end has one place and each place one index. Assumes nothing.
use mathlib.Core.Path.{◌≡◌, refl, sym, ap, subst, ◌∙◌}
use mathlib.Core.Bool.{Bool, true, false}
use mathlib.Core.List.{List, [], ◌∷◌}
use Prim.Native.Nat.{ℕ, zero, suc, ◌+◌, ◌-◌, ◌*◌, ◌/◌, ◌%◌, ◌^◌, ◌<◌, ◌≤◌}
use native.Mathlib.Nat.{mul-le-mul, mod-lt, div-lt_iff_lt-mul, one-le-pow, pow-suc, pow-succ', pow-zero, one-mul, zero-mul, div-add-mod'}
use native.Mathlib.Omega.{arith}
use lib.Dec.{ltb}
use borrow.Author.Tests.{lt-ltb, le-ltb, ltb-true, ltb-false}
use Rattle.store.specs.Where.{All, none, more}
use Rattle.inode.specs.Size.{pick}
use Rattle.mapping.specs.Zones.{zone_start, zones_end, place_of, positions}
use Rattle.mapping.specs.declared.Place.{Place}
use Rattle.mapping.specs.declared.Place.TheVariants.{Under, Past}

-- ---- powers of p

pub pow_one : (p : ℕ) → p ≡ p ^ 1
pow_one p = sym (pow-suc p 0 ∙ ap (λ (x : ℕ). x * p) (pow-zero p) ∙ one-mul p)

pub pow_two : (p : ℕ) → p * p ≡ p ^ 2
pow_two p = ap (λ (x : ℕ). x * p) (pow_one p) ∙ sym (pow-suc p 1)

pub pow_three : (p : ℕ) → p * p * p ≡ p ^ 3
pow_three p = ap (λ (x : ℕ). x * p) (pow_two p) ∙ sym (pow-suc p 2)

pub square_le : (p : ℕ) → p ≤ 8192 → p * p ≤ 67108864
square_le p h = mul-le-mul h h

pub cube_le : (p : ℕ) → p ≤ 8192 → p * p * p ≤ 549755813888
cube_le p h = mul-le-mul (square_le p h) h

-- ---- what one entry spans: more than none; the place in a list is below p, and the rest below the span

module _ (p l each : ℕ) (pos : 0 < p) (e : each ≡ p ^ (l - 1)) where
  pub each-pos : 0 < each
  each-pos = rw e (one-le-pow (l - 1) p pos)

  pub slot-below : (i : ℕ) → i < p ^ l → (l ≡ 0 → ⊥) → i / each < p
  slot-below i lt nz =
      let up : suc (l - 1) ≡ l = omega (arith, nz) in
      (div-lt_iff_lt-mul each-pos).1 (rw (e, ← pow-succ' p (l - 1), up) lt)

  pub rest_below : (i : ℕ) → i % each < p ^ (l - 1)
  rest_below i = rw (← e) (mod-lt i each-pos)

-- ---- where the zones begin

module _ (p : ℕ) where
  pub start-one : zone_start p 1 ≡ 12
  unfolding zone_start
  start-one = refl

  pub start-next : (l : ℕ) → zone_start p (suc (suc l)) ≡ zone_start p (suc l) + p ^ suc l
  unfolding zone_start
  start-next l = refl

  pub start-two : zone_start p 2 ≡ 12 + p ^ 1
  unfolding zone_start
  start-two = refl

  pub start-three : zone_start p 3 ≡ 12 + p ^ 1 + p ^ 2
  unfolding zone_start
  start-three = refl

  pub start-four : zone_start p 4 ≡ 12 + p ^ 1 + p ^ 2 + p ^ 3
  unfolding zone_start
  start-four = refl

-- ---- the cases of a place; the spans as the code has them

module _ (p i : ℕ) where
  pub place-direct : i < 12 → Under i 0 (record { 0 = 0 }) ≡ place_of p i
  unfolding place_of
  place-direct h = simp (start-one p, lt-ltb _ _ h)

  module _ (a : 12 ≤ i) (s : ℕ) (es : s ≡ p ^ 1) where
    pub place-first : i < 12 + s → Under 12 1 (record { 0 = i - 12 }) ≡ place_of p i
    unfolding place_of
    place-first h = simp (start-one p, start-two p, le-ltb _ _ a, lt-ltb _ _ (rw es at h))

    module _ (b : 12 + s ≤ i) (d : ℕ) (ed : d ≡ p ^ 2) where
      pub place-second : i < 12 + s + d → Under 13 2 (record { 0 = i - (12 + s) }) ≡ place_of p i
      unfolding place_of
      place-second h = rw es (simp (start-one p, start-two p, start-three p, le-ltb _ _ a, le-ltb _ _ (rw es at b), lt-ltb _ _ (rw (es, ed) at h)))

      module _ (f : 12 + s + d ≤ i) (t : ℕ) (et : t ≡ p ^ 3) where
        pub place-third : i < 12 + s + d + t → Under 14 3 (record { 0 = i - (12 + s + d) }) ≡ place_of p i
        unfolding place_of
        place-third h =
            rw (es, ed) (simp (start-one p, start-two p, start-three p, start-four p, le-ltb _ _ a, le-ltb _ _ (rw es at b), le-ltb _ _ (rw (es, ed) at f), lt-ltb _ _ (rw (es, ed, et) at h)))

        pub place-past : 12 + s + d + t ≤ i → Past ≡ place_of p i
        unfolding place_of
        place-past h =
            simp (start-one p, start-two p, start-three p, start-four p, le-ltb _ _ a, le-ltb _ _ (rw es at b), le-ltb _ _ (rw (es, ed) at f), le-ltb _ _ (rw (es, ed, et) at h))

-- ---- each index below the end has exactly one place

-- one of the 15 addresses, with the level of its zone, and a place that the level spans
pub Good : ℕ → Place → Type 0
Good p (Under root level rest) = (root < 15) × (level ≤ 3) × (rest.0 < p ^ level) × ((level ≡ 0 → (root < 12) × (rest.0 ≡ 0)) × ((level ≡ 0 → ⊥) → root ≡ 11 + level))
Good p Past = Unit

-- the index that a place stands for
abbrev pub index_of : ℕ → Place → ℕ
index_of p (Under root zero rest) = root
index_of p (Under root (suc l) rest) = zone_start p (suc l) + rest.0
index_of p Past = zones_end p

by_cases : (P : Place → Type 0) (b : Bool) (x y : Place) → (b ≡ true → P x) → (b ≡ false → P y) → P (pick b x y)
by_cases P true x y h k = h refl
by_cases P false x y h k = k refl

below_or : (P : Place → Type 0) (i n : ℕ) (x y : Place) → (i < n → P x) → (n ≤ i → P y) → P (pick (ltb i n) x y)
below_or P i n x y h k = by_cases P (ltb i n) x y (λ e. h (ltb-true i n e)) (λ e. k (ltb-false i n e))

module _ (p i : ℕ) where
  -- a property of a place that holds in each zone holds of the index's place
  by-zone : (P : Place → Type 0)
      → (i < 12 → P (Under i 0 (record { 0 = 0 })))
      → (12 ≤ i → i < 12 + p ^ 1 → P (Under 12 1 (record { 0 = i - 12 })))
      → (12 + p ^ 1 ≤ i → i < 12 + p ^ 1 + p ^ 2 → P (Under 13 2 (record { 0 = i - (12 + p ^ 1) })))
      → (12 + p ^ 1 + p ^ 2 ≤ i → i < 12 + p ^ 1 + p ^ 2 + p ^ 3 → P (Under 14 3 (record { 0 = i - (12 + p ^ 1 + p ^ 2) })))
      → (12 + p ^ 1 + p ^ 2 + p ^ 3 ≤ i → P Past)
      → P (place_of p i)
  unfolding place_of
  by-zone P a b d f g =
      rw (start-one p, start-two p, start-three p, start-four p)
      (below_or P i 12 _ _ a λ h. below_or P i (12 + p ^ 1) _ _ (b h) λ h. below_or P i (12 + p ^ 1 + p ^ 2) _ _ (d h) λ h. below_or P i (12 + p ^ 1 + p ^ 2 + p ^ 3) _ _ (f h) g)

  pub place-good : Good p (place_of p i)
  unfolding Good
  place-good =
      by-zone (Good p)
      (λ h. (omega arith, omega arith, rw (pow-zero p) (omega arith), (λ z. (h, refl), λ z. absurd (z refl))))
      (λ a h. (omega arith, omega arith, omega arith, (λ z. let f : ⊥ = omega arith in absurd f, λ z. refl)))
      (λ a h. (omega arith, omega arith, omega arith, (λ z. let f : ⊥ = omega arith in absurd f, λ z. refl)))
      (λ a h. (omega arith, omega arith, omega arith, (λ z. let f : ⊥ = omega arith in absurd f, λ z. refl)))
      (λ h. tt {0})

  -- "the zones begin at 0, 12, 12 + p, 12 + p + p², and end p³ later": an index below the end is that of its place
  pub index-place : i < zones_end p → index_of p (place_of p i) ≡ i
  index-place l =
      by-zone (λ x. index_of p x ≡ i)
      (λ h. refl)
      (λ a h. rw (start-one p) (omega arith))
      (λ a h. rw (start-two p) (omega arith))
      (λ a h. rw (start-three p) (omega arith))
      (λ h. let f : ⊥ = omega (arith, start-four p) in absurd f)

  -- and one that has a place is below the end
  pub past_end : zones_end p ≤ i → place_of p i ≡ Past
  past_end l =
      by-zone (λ x. x ≡ Past)
      (λ h. let f : ⊥ = omega (arith, start-four p) in absurd f)
      (λ a h. let f : ⊥ = omega (arith, start-four p) in absurd f)
      (λ a h. let f : ⊥ = omega (arith, start-four p) in absurd f)
      (λ a h. let f : ⊥ = omega (arith, start-four p) in absurd f)
      (λ h. refl)

-- different indexes have different places
pub places_differ : (p i j : ℕ) → i < zones_end p → j < zones_end p → place_of p i ≡ place_of p j → i ≡ j
places_differ p i j a b e = sym (index-place p i a) ∙ ap (index_of p) e ∙ index-place p j b

pub under_good : (p i root level : ℕ) {rest : _} → Under root level rest ≡ place_of p i → (root < 15) × (level ≤ 3) × (rest.0 < p ^ level)
unfolding Good
under_good p i root level {rest} e = let g : Good p (Under root level rest) = subst (Good p) (sym e) (place-good p i) in (g.0, g.1, g.2)

-- ---- the positions in the lists on the way: each below p, and together they say where

-- every position is one of its list
pub positions-below : (p l x : ℕ) → 0 < p → x < p ^ l → All (λ d. d < p) (positions p l x)
positions-below p zero x pos h = none
positions-below p (suc l) x pos h =
    let m : 0 < p ^ l = one-le-pow l p pos in
    more ((div-lt_iff_lt-mul {k = p ^ l} {x = x} {y = p} m).1 (rw (← pow-succ' p l) h)) (positions-below p l (x % p ^ l) pos (mod-lt x m))

-- the place that positions say: the highest list's first
abbrev pub place_in : ℕ → ℕ → List ℕ → ℕ
place_in p l [] = 0
place_in p zero (d ∷ ds) = 0
place_in p (suc l) (d ∷ ds) = d * p ^ l + place_in p l ds

pos-left : (m n x : ℕ) → x < m * n → 0 < m
pos-left zero n x h = let z : ⊥ = omega (arith, zero-mul n, h) in absurd z
pos-left (suc m) n x h = omega arith

pub positions_say : (p l x : ℕ) → x < p ^ l → place_in p l (positions p l x) ≡ x
positions_say p zero x h = let z = rw (pow-zero p) at h in omega arith
positions_say p (suc l) x h =
    let m : 0 < p ^ l = pos-left (p ^ l) p x (rw (pow-suc p l) at h) in
    rw (positions_say p l (x % p ^ l) (mod-lt x m)) (div-add-mod' x (p ^ l))
