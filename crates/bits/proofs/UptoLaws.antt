-- The laws of `specs/Upto.antt`, each over every test and every function. Assumes nothing.
use Rattle.std.specs.Prelude.{Option, Some, None}
use mathlib.Core.Path.{◌≡◌, refl, sym, ap, ◌∙◌}
use mathlib.Core.Bool.{Bool, true, false, ◌&&◌, and_assoc}
use mathlib.Core.Logic.{◌⊎◌, inl, inr, ⊎_elim}
use Prim.Native.Nat.{ℕ, zero, suc, ◌+◌, ◌-◌, ◌*◌, ◌≤◌, ◌<◌}
use native.Mathlib.Nat.{add-zero, zero-add, add-suc, suc-add, add_assoc, eq-or-lt_of_le, le_of_suc-le-suc, mul-zero, mul-suc, mul-add}
use native.Mathlib.Numerals.{add-one}
use native.Mathlib.Omega.{arith}
use lib.Dec.{eqb}
use Rattle.bits.specs.Upto.{all, sum, as_bit, count, pick_found, first}

-- ---- tests

pub both : (a b : Bool) → (a && b) ≡ true → (a ≡ true) × (b ≡ true)
both true b h = (refl, h)
both false b h = let z : ◌≡◌ {A = ℕ} 0 1 = cc in absurd (let e : ⊥ = omega arith in e)

pub true-not-false : {a : Bool} → a ≡ true → a ≡ false → ⊥
true-not-false t f = let z : ◌≡◌ {A = ℕ} 0 1 = cc in omega arith

-- a test that cannot be true is false
pub not-true : (a : Bool) → (a ≡ true → ⊥) → a ≡ false
not-true true h = absurd (h refl)
not-true false h = refl

-- two tests that hold of the same are the same
pub same-test : (a b : Bool) → (a ≡ true → b ≡ true) → (b ≡ true → a ≡ true) → a ≡ b
same-test true b f g = sym (f refl)
same-test false true f g = g refl
same-test false false f g = refl

-- k ≤ n: it is n, or below
below-suc : {k n : ℕ} → k < suc n → (k ≡ n) ⊎ (k < n)
below-suc h = eq-or-lt_of_le (le_of_suc-le-suc h)

-- ---- `all`

pub all-none : (p : ℕ → Bool) → all p 0 ≡ true
unfolding all
all-none p = refl

pub all-more : (p : ℕ → Bool) (n : ℕ) → all p (n + 1) ≡ (all p n && p n)
unfolding all
all-more p n = rw add-one

pub all-at : (p : ℕ → Bool) (n k : ℕ) → all p n ≡ true → k < n → p k ≡ true
unfolding all
all-at p zero k a l = absurd (let e : ⊥ = omega arith in e)
all-at p (suc n) k a l = ⊎_elim (λ e. rw e (both (all p n) (p n) a).1) (λ e. all-at p n k (both (all p n) (p n) a).0 e) (below-suc l)

pub all-holds : (p : ℕ → Bool) (n : ℕ) → ((k : ℕ) → k < n → p k ≡ true) → all p n ≡ true
unfolding all
all-holds p zero h = refl
all-holds p (suc n) h = rw (all-holds p n (λ k l. h k (omega arith)), h n (omega arith))

pub all_fail : (p : ℕ → Bool) (n k : ℕ) → k < n → p k ≡ false → all p n ≡ false
all_fail p n k l f = not-true (all p n) (λ a. true-not-false (all-at p n k a l) f)

pub all-same : (p q : ℕ → Bool) (n : ℕ) → ((k : ℕ) → k < n → p k ≡ q k) → all p n ≡ all q n
unfolding all
all-same p q zero h = refl
all-same p q (suc n) h = rw (all-same p q n (λ k l. h k (omega arith)), h n (omega arith))

pub all-split : (p : ℕ → Bool) (m n : ℕ) → all p (m + n) ≡ (all p m && all (λ (k : ℕ). p (m + k)) n)
unfolding all
all-split p m zero = rw add-zero (at-end (all p m))
  where
    at-end : (a : Bool) → a ≡ (a && true)
    at-end true = refl
    at-end false = refl
all-split p m (suc n) = rw (add-suc, all-split p m n) (and_assoc (all p m) (all (λ (k : ℕ). p (m + k)) n) (p (m + n)))

-- ---- `sum`

pub sum-none : (f : ℕ → ℕ) → sum f 0 ≡ 0
unfolding sum
sum-none f = refl

pub sum-more : (f : ℕ → ℕ) (n : ℕ) → sum f (n + 1) ≡ sum f n + f n
unfolding sum
sum-more f n = rw add-one

pub sum-same : (f g : ℕ → ℕ) (n : ℕ) → ((k : ℕ) → k < n → f k ≡ g k) → sum f n ≡ sum g n
unfolding sum
sum-same f g zero h = refl
sum-same f g (suc n) h = rw (sum-same f g n (λ k l. h k (omega arith)), h n (omega arith))

pub sum-split : (f : ℕ → ℕ) (m n : ℕ) → sum f (m + n) ≡ sum f m + sum (λ (k : ℕ). f (m + k)) n
unfolding sum
sum-split f m zero = rw (add-zero m, add-zero (sum f m))
sum-split f m (suc n) = rw (add-suc, sum-split f m n) (add_assoc _ _ _)

pub sum-here : (f : ℕ → ℕ) (b : ℕ) → sum (λ (k : ℕ). f (b + k)) 1 ≡ f b
unfolding sum
sum-here f b = rw (zero-add, add-zero)

-- every term is v
pub sum_const : (f : ℕ → ℕ) (v n : ℕ) → ((k : ℕ) → k < n → f k ≡ v) → sum f n ≡ v * n
unfolding sum
sum_const f v zero h = omega arith
sum_const f v (suc n) h = rw (sum_const f v n (λ k l. h k (omega arith)), h n (omega arith), mul-suc)

-- no term is past v
pub sum_le : (f : ℕ → ℕ) (v n : ℕ) → ((k : ℕ) → k < n → f k ≤ v) → sum f n ≤ v * n
unfolding sum
sum_le f v zero h = omega arith
sum_le f v (suc n) h = omega (arith, sum_le f v n (λ k l. h k (omega arith)), h n (omega arith), mul-suc v n)

pub sum_times : (f : ℕ → ℕ) (v n : ℕ) → sum (λ (k : ℕ). v * f k) n ≡ v * sum f n
unfolding sum
sum_times f v zero = omega arith
sum_times f v (suc n) = omega (arith, sum_times f v n, mul-add v (sum f n) (f n))

-- sums of what is joined number by number
pub sum-joined : (f g h : ℕ → ℕ) (v n : ℕ) → ((k : ℕ) → k < n → f k + v * g k ≡ h k) → sum f n + v * sum g n ≡ sum h n
unfolding sum
sum-joined f g h v zero e = omega (arith, mul-zero v)
sum-joined f g h v (suc n) e = omega (arith, mul-add v (sum g n) (g n), sum-joined f g h v n (λ k l. e k (omega arith)), e n (omega arith))

-- n groups of s numbers, in each of which f falls short of g by c
pub sum-groups : (f g c : ℕ → ℕ) (s n : ℕ) → ((h : ℕ) → h < n → sum (λ (k : ℕ). f (s * h + k)) s + c h ≡ sum (λ (k : ℕ). g (s * h + k)) s) →
    sum f (s * n) + sum c n ≡ sum g (s * n)
unfolding sum
sum-groups f g c s zero e = rw mul-zero
sum-groups f g c s (suc n) e =
    rw mul-suc
    (omega (arith, sum-split f (s * n) s, sum-split g (s * n) s, e n (omega arith), sum-groups f g c s n (λ h l. e h (omega arith))))

-- two functions that differ only in the n numbers from a
pub sum_change : (f g : ℕ → ℕ) (a n r : ℕ) → ((k : ℕ) → (k < a) ⊎ (a + n ≤ k) → f k ≡ g k) →
    sum f (a + n + r) + sum (λ (k : ℕ). g (a + k)) n ≡ sum g (a + n + r) + sum (λ (k : ℕ). f (a + k)) n
sum_change f g a n r h =
    omega (
      arith,
      sum-split f (a + n) r,
      sum-split f a n,
      sum-split g (a + n) r,
      sum-split g a n,
      sum-same f g a (λ k l. h k (inl l)),
      sum-same (λ (k : ℕ). f (a + n + k)) (λ (k : ℕ). g (a + n + k)) r (λ k l. h (a + n + k) (inr (omega arith))),
    )

-- ---- `count`

pub as_bit-true : {a : Bool} → a ≡ true → as_bit a ≡ 1
unfolding as_bit
as_bit-true e = rw e

pub as_bit-false : {a : Bool} → a ≡ false → as_bit a ≡ 0
unfolding as_bit
as_bit-false e = rw e

-- a bit is 1 or not
pub as_bit-one : (b : ℕ) → b < 2 → as_bit (eqb b 1) ≡ b
unfolding as_bit
as_bit-one zero h = refl
as_bit-one (suc zero) h = refl
as_bit-one (suc (suc b)) h = absurd (let z : ⊥ = omega arith in z)

pub as_bit_le : (a : Bool) → as_bit a ≤ 1
unfolding as_bit
as_bit_le true = omega arith
as_bit_le false = omega arith

pub count-sum : (p : ℕ → Bool) (n : ℕ) → count p n ≡ sum (λ (k : ℕ). as_bit (p k)) n
unfolding count
count-sum p n = refl

pub count-none : (p : ℕ → Bool) → count p 0 ≡ 0
unfolding count
count-none p = sum-none _

pub count-more : (p : ℕ → Bool) (n : ℕ) → count p (n + 1) ≡ count p n + as_bit (p n)
unfolding count
count-more p n = sum-more _ n

pub count-same : (p q : ℕ → Bool) (n : ℕ) → ((k : ℕ) → k < n → p k ≡ q k) → count p n ≡ count q n
unfolding count
count-same p q n h = sum-same _ _ n (λ k l. ap as_bit (h k l))

pub count-split : (p : ℕ → Bool) (m n : ℕ) → count p (m + n) ≡ count p m + count (λ (k : ℕ). p (m + k)) n
unfolding count
count-split p m n = sum-split _ m n

pub count_le : (p : ℕ → Bool) (n : ℕ) → count p n ≤ n
unfolding count
count_le p n = omega (arith, sum_le (λ (k : ℕ). as_bit (p k)) 1 n (λ k l. as_bit_le (p k)))

-- every number, or none
pub count_const : (p : ℕ → Bool) (a : Bool) (n : ℕ) → ((k : ℕ) → k < n → p k ≡ a) → count p n ≡ as_bit a * n
unfolding count
count_const p a n h = sum_const _ (as_bit a) n (λ k l. ap as_bit (h k l))

-- two tests that differ only in one number
pub count_change : (p q : ℕ → Bool) (n b : ℕ) → b < n → ((k : ℕ) → (k ≡ b → ⊥) → p k ≡ q k) → count p n + as_bit (q b) ≡ count q n + as_bit (p b)
unfolding count
count_change p q n b l h =
    let f : ℕ → ℕ = λ (k : ℕ). as_bit (p k) in
    let g : ℕ → ℕ = λ (k : ℕ). as_bit (q k) in
    let e : b + 1 + (n - (b + 1)) ≡ n = omega arith in
    rw (sum-here f b, sum-here g b, e) at
    (sum_change f g b 1 (n - (b + 1)) (λ k o. ap as_bit (h k (λ q. ⊎_elim (λ x. omega arith) (λ x. omega arith) o))))

-- ---- `first`

pub first-none : (p : ℕ → Bool) (i : ℕ) → first p i 0 ≡ None
unfolding first
first-none p i = refl

pub first-hit : (p : ℕ → Bool) (i m : ℕ) → 0 < m → p i ≡ true → first p i m ≡ Some i
unfolding first
first-hit p i zero l h = absurd (let e : ⊥ = omega arith in e)
first-hit p i (suc m) l h = rw h

pub first_miss : (p : ℕ → Bool) (i m : ℕ) → p i ≡ false → first p i (m + 1) ≡ first p (i + 1) m
unfolding first
first_miss p i m h = rw (add-one m, add-one i, h)

pub first-same : (p q : ℕ → Bool) (i m : ℕ) → ((k : ℕ) → i ≤ k → k < i + m → p k ≡ q k) → first p i m ≡ first q i m
unfolding first
first-same p q i zero h = refl
first-same p q i (suc m) h = rw (h i (omega arith) (omega arith), first-same p q (suc i) m (λ k l u. h k (omega arith) (omega arith)))

-- k is the first of the m numbers from i that p holds of
pub record IsFirst (p : ℕ → Bool) (i m k : ℕ) : Type 0 where
  pub from : i ≤ k
  pub below : k < i + m
  pub holds : p k ≡ true
  pub before : (j : ℕ) → i ≤ j → j < k → p j ≡ false

pub first-found : (p : ℕ → Bool) (i m k : ℕ) → first p i m ≡ Some k → IsFirst p i m k
unfolding first
first-found p i zero k e = absurd (let z : ◌≡◌ {A = ℕ} 0 1 = cc in let y : ⊥ = omega arith in y)
first-found p i (suc m) k e = go (p i) refl e (first-found p (suc i) m k)
  where
    go : (a : Bool) → p i ≡ a → pick_found a (Some i) (first p (suc i) m) ≡ Some k → (first p (suc i) m ≡ Some k → IsFirst p (suc i) m k) → IsFirst p i (suc m) k
    go true a e f =
        let q : i ≡ k = cc in
        record { from = omega arith; below = omega arith; holds = ap p (sym q) ∙ a; before = λ j l u. absurd (let y : ⊥ = omega arith in y) }
    go false a e f =
        let r = f e in
        record {
          from = omega (arith, r.from);
          below = omega (arith, r.below);
          holds = r.holds;
          before = λ j l u. ⊎_elim (λ q. ap p (sym q) ∙ a) (λ q. r.before j q u) (eq-or-lt_of_le l);
        }

pub first_missing : (p : ℕ → Bool) (i m : ℕ) → first p i m ≡ None → (j : ℕ) → i ≤ j → j < i + m → p j ≡ false
unfolding first
first_missing p i zero e j l u = absurd (let y : ⊥ = omega arith in y)
first_missing p i (suc m) e j l u = go (p i) refl e (first_missing p (suc i) m)
  where
    go : (a : Bool) → p i ≡ a → pick_found a (Some i) (first p (suc i) m) ≡ None → (first p (suc i) m ≡ None → (j : ℕ) → suc i ≤ j → j < suc i + m → p j ≡ false) → p j ≡ false
    go true a e f = absurd (let z : ◌≡◌ {A = ℕ} 0 1 = cc in let y : ⊥ = omega arith in y)
    go false a e f = ⊎_elim (λ q. ap p (sym q) ∙ a) (λ q. f e j q (omega arith)) (eq-or-lt_of_le l)

pub first_fails : (p : ℕ → Bool) (i m : ℕ) → ((j : ℕ) → i ≤ j → j < i + m → p j ≡ false) → first p i m ≡ None
unfolding first
first_fails p i zero h = refl
first_fails p i (suc m) h = rw (h i (omega arith) (omega arith)) (first_fails p (suc i) m (λ j l u. h j (omega arith) (omega arith)))

pub first-is : (p : ℕ → Bool) (i m k : ℕ) → IsFirst p i m k → first p i m ≡ Some k
unfolding first
first-is p i zero k r = absurd (let y : ⊥ = omega (arith, r.from, r.below) in y)
first-is p i (suc m) k r = go (eq-or-lt_of_le r.from) (first-is p (suc i) m k)
  where
    go : (i ≡ k) ⊎ (i < k) → (IsFirst p (suc i) m k → first p (suc i) m ≡ Some k) → first p i (suc m) ≡ Some k
    go (inl e) f = rw (ap p e ∙ r.holds, e)
    go (inr l) f =
        rw (r.before i (omega arith) l)
        (f (record { from = l; below = omega (arith, r.below); holds = r.holds; before = λ j l u. r.before j (omega arith) u }))

-- the first answer, or else the second
abbrev pub or_else : Option ℕ → Option ℕ → Option ℕ
or_else (Some k) g = Some k
or_else None g = g

pub first-split : (p : ℕ → Bool) (i m n : ℕ) → first p i (m + n) ≡ or_else (first p i m) (first p (i + m) n)
unfolding first
first-split p i zero n = rw (zero-add, add-zero)
first-split p i (suc m) n = rw suc-add (go (p i) refl (first-split p (suc i) m n))
  where
    go : (a : Bool) → p i ≡ a → first p (suc i) (m + n) ≡ or_else (first p (suc i) m) (first p (suc i + m) n) →
        pick_found a (Some i) (first p (suc i) (m + n)) ≡ or_else (pick_found a (Some i) (first p (suc i) m)) (first p (i + suc m) n)
    go true a e = refl
    go false a e = e ∙ ap (λ (j : ℕ). or_else (first p (suc i) m) (first p j n)) (omega arith)

-- ---- a scan of the numbers below n has passed those below i, and looks at those from i to `to`

module _ (p : ℕ → Bool) (n i to : ℕ) (l : i ≤ to) (u : to ≤ n) where
  parted : first p i (n - i) ≡ or_else (first p i (to - i)) (first p to (n - to))
  parted =
      let q : n - i ≡ to - i + (n - to) = omega arith in
      let e : i + (to - i) ≡ to = omega arith in
      ap (first p i) q ∙ first-split p i (to - i) (n - to) ∙ ap (λ (j : ℕ). or_else (first p i (to - i)) (first p j (n - to))) e

  pub first-turn : first p i (to - i) ≡ None → first p i (n - i) ≡ first p to (n - to)
  first-turn e = parted ∙ ap (λ (f : Option ℕ). or_else f (first p to (n - to))) e

  pub first-stop : {k : ℕ} → first p i (to - i) ≡ Some k → first p i (n - i) ≡ Some k
  first-stop e = parted ∙ ap (λ (f : Option ℕ). or_else f (first p to (n - to))) e

-- ---- the same, one number at a time

module _ (p : ℕ → Bool) (n i : ℕ) where
  pub first-here : i < n → p i ≡ true → first p i (n - i) ≡ Some i
  first-here l h = first-hit p i (n - i) (omega arith) h

  pub first_next : i < n → p i ≡ false → first p i (n - i) ≡ first p (i + 1) (n - (i + 1))
  first_next l h = let q : n - i ≡ n - (i + 1) + 1 = omega arith in ap (first p i) q ∙ first_miss p i (n - (i + 1)) h

  pub first-end : n ≤ i → first p i (n - i) ≡ None
  first-end l = let q : n - i ≡ 0 = omega arith in ap (first p i) q ∙ first-none p i
