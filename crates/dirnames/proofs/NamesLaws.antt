-- The laws of `specs/Names.antt`, as the code asks for them. Assumes nothing.
use mathlib.Core.Path.{◌≡◌, refl, sym, ◌∙◌}
use mathlib.Core.Bool.{Bool, true, false, ◌&&◌}
use mathlib.Core.List.{List, [], ◌∷◌}
use Prim.Native.Nat.{ℕ, zero, suc, ◌<◌}
use native.Mathlib.Omega.{arith}
use lib.Dec.{eqb, ltb}
use lib.ListN.{length, get_or}
use borrow.Author.Tests.{eq-eqb, ne_eqb, lt-ltb}
use Rattle.bits.proofs.UptoLaws.{both, not-true}
use Rattle.dirnames.specs.Names.{plain, all_plain, legal, special}

pub never_both : (a : Bool) → a ≡ true → a ≡ false → ⊥
never_both a t f = let z : ◌≡◌ {A = ℕ} 0 1 = cc in omega arith

-- ---- one byte

pub plain-is : (b : ℕ) → (b ≡ 47 → ⊥) → (b ≡ 0 → ⊥) → plain b ≡ true
unfolding plain
plain-is b s z = rw (ne_eqb b 47 s, ne_eqb b 0 z)

slash_not : (b : ℕ) → b ≡ 47 → plain b ≡ false
unfolding plain
slash_not b s = rw (eq-eqb b 47 s)

nul_not : (b : ℕ) → b ≡ 0 → plain b ≡ false
unfolding plain
nul_not b z = rw z

pub plain-says : (b : ℕ) → plain b ≡ true → (b ≡ 47 → ⊥) × (b ≡ 0 → ⊥)
plain-says b h = (λ s. never_both (plain b) h (slash_not b s), λ z. never_both (plain b) h (nul_not b z))

-- ---- all of them

pub all-plain : (bs : List ℕ) → ((k : ℕ) → k < length bs → plain (get_or bs k 0) ≡ true) → all_plain bs ≡ true
unfolding all_plain
all-plain [] f = refl
all-plain (b ∷ bs) f = rw (f 0 (omega arith), all-plain bs (λ k l. f (suc k) (omega arith)))

pub each-plain : (bs : List ℕ) → all_plain bs ≡ true → (k : ℕ) → k < length bs → plain (get_or bs k 0) ≡ true
unfolding all_plain
each-plain [] e k l = absurd (let y : ⊥ = omega arith in y)
each-plain (b ∷ bs) e zero l = (both (plain b) (all_plain bs) e).0
each-plain (b ∷ bs) e (suc k) l = each-plain bs (both (plain b) (all_plain bs) e).1 k (omega arith)

-- ---- names

pub legal-all : (name : List ℕ) → ((k : ℕ) → k < length name → plain (get_or name k 0) ≡ true) → ltb 0 (length name) ≡ legal name
unfolding legal
legal-all [] f = refl
legal-all (b ∷ bs) f = lt-ltb 0 (length (b ∷ bs)) (omega arith) ∙ sym (all-plain (b ∷ bs) f)

legal-each : (name : List ℕ) → legal name ≡ true → (k : ℕ) → k < length name → plain (get_or name k 0) ≡ true
unfolding legal
legal-each [] e k l = absurd (let y : ⊥ = omega arith in y)
legal-each (b ∷ bs) e k l = each-plain (b ∷ bs) e k l

pub legal-not : (name : List ℕ) → (((k : ℕ) → k < length name → plain (get_or name k 0) ≡ true) → ⊥) → false ≡ legal name
legal-not name h = sym (not-true _ (λ e. h (legal-each name e)))

-- a name of one byte, of two, of neither
pub special-one : (name : List ℕ) → length name ≡ 1 → eqb (get_or name 0 0) 46 ≡ special name
unfolding special
special-one [] l = absurd (let y : ⊥ = omega arith in y)
special-one (a ∷ []) l = refl
special-one (a ∷ b ∷ bs) l = absurd (let y : ⊥ = omega arith in y)

pub special-two : (name : List ℕ) → length name ≡ 2 → eqb (get_or name 0 0) 46 && eqb (get_or name 1 0) 46 ≡ special name
unfolding special
special-two [] l = absurd (let y : ⊥ = omega arith in y)
special-two (a ∷ []) l = absurd (let y : ⊥ = omega arith in y)
special-two (a ∷ b ∷ []) l = refl
special-two (a ∷ b ∷ c ∷ cs) l = absurd (let y : ⊥ = omega arith in y)

pub special-not : (name : List ℕ) → (length name ≡ 1 → ⊥) → (length name ≡ 2 → ⊥) → false ≡ special name
unfolding special
special-not [] o t = refl
special-not (a ∷ []) o t = absurd (o refl)
special-not (a ∷ b ∷ []) o t = absurd (t refl)
special-not (a ∷ b ∷ c ∷ cs) o t = refl
