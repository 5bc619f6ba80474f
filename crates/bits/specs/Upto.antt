-- Tests, sums, counts and searches over the numbers below n. Assumes nothing.
use Rattle.std.specs.Prelude.{Bool, true, false, ◌&&◌, ℕ, zero, suc, ◌+◌, Option, Some, None}

-- p holds of each number below n
unfoldable pub all : (ℕ → Bool) → ℕ → Bool
all p zero = true
all p (suc n) = all p n && p n

-- the sum of f over the numbers below n
unfoldable pub sum : (ℕ → ℕ) → ℕ → ℕ
sum f zero = 0
sum f (suc n) = sum f n + f n

-- a test as a bit: 1 where it holds
unfoldable pub as_bit : Bool → ℕ
as_bit true = 1
as_bit false = 0

-- how many of the numbers below n p holds of
unfoldable pub count : (ℕ → Bool) → ℕ → ℕ
count p n = sum (λ (k : ℕ). as_bit (p k)) n

-- the one where the test holds, else the other
abbrev pub pick_found : Bool → Option ℕ → Option ℕ → Option ℕ
pick_found true a b = a
pick_found false a b = b

-- the first of the m numbers i, i + 1, .. that p holds of
unfoldable pub first : (ℕ → Bool) → ℕ → ℕ → Option ℕ
first p i zero = None
first p i (suc m) = pick_found (p i) (Some i) (first p (suc i) m)
