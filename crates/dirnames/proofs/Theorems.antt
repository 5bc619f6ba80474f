-- What the tests of a name say of it, byte by byte; nothing more and nothing less. Assumes nothing.
use mathlib.Core.Path.{◌≡◌, refl, sym, ap, ◌∙◌}
use mathlib.Core.Bool.{Bool, true, false, not, ◌&&◌}
use mathlib.Core.List.{List, [], ◌∷◌}
use mathlib.Core.Logic.{◌⊎◌, inl, inr}
use Prim.Native.Nat.{ℕ, ◌<◌, ◌≤◌}
use native.Mathlib.Omega.{arith}
use lib.Dec.{eqb}
use lib.ListN.{length, get_or}
use borrow.Author.Tests.{eqb-true, lt-ltb, le-leb, leb-true, not-true}
use Rattle.bits.proofs.UptoLaws.{both}
use Rattle.dirnames.specs.Names.{legal, special, taken, short}
use Rattle.dirnames.proofs.NamesLaws.{never_both, plain-is, plain-says, each-plain, legal-all}

-- 01: "empty name, "/" or NUL in it" is what it is not
pub record Legal (name : List ℕ) : Type 0 where
  pub some : 0 < length name
  pub no_slash : (k : ℕ) → k < length name → get_or name k 0 ≡ 47 → ⊥
  pub no_nul : (k : ℕ) → k < length name → get_or name k 0 ≡ 0 → ⊥

pub legal-says : (name : List ℕ) → legal name ≡ true → Legal name
unfolding legal
legal-says [] e = absurd (never_both false e refl)
legal-says (b ∷ bs) e =
    record {
      some = omega arith;
      no_slash = λ k l. (plain-says _ (each-plain (b ∷ bs) e k l)).0;
      no_nul = λ k l. (plain-says _ (each-plain (b ∷ bs) e k l)).1;
    }

pub says-legal : (name : List ℕ) → Legal name → legal name ≡ true
says-legal name h =
    sym (legal-all name (λ k l. plain-is (get_or name k 0) (h.no_slash k l) (h.no_nul k l))) ∙ lt-ltb 0 (length name) h.some

-- "." or ".."
abbrev pub Special : List ℕ → Type 0
Special name = (name ≡ 46 ∷ []) ⊎ (name ≡ 46 ∷ 46 ∷ [])

pub special-says : (name : List ℕ) → special name ≡ true → Special name
unfolding special
special-says [] e = absurd (never_both false e refl)
special-says (a ∷ []) e = inl (ap (λ (x : ℕ). x ∷ []) (eqb-true a 46 e))
special-says (a ∷ b ∷ []) e =
    let q = both (eqb a 46) (eqb b 46) e in
    inr (ap (λ (x : ℕ). x ∷ b ∷ []) (eqb-true a 46 q.0) ∙ ap (λ (x : ℕ). 46 ∷ x ∷ []) (eqb-true b 46 q.1))
special-says (a ∷ b ∷ c ∷ cs) e = absurd (never_both false e refl)

pub says-special : (name : List ℕ) → Special name → special name ≡ true
unfolding special
says-special name (inl e) = rw e
says-special name (inr e) = rw e

-- 01: ".. "." or ".." where a name is made, renamed or passed to rmdir"
pub record Taken (made : Bool) (name : List ℕ) : Type 0 where
  pub legal : Legal name
  pub not_special : made ≡ true → Special name → ⊥

pub taken-says : (made : Bool) (name : List ℕ) → taken made name ≡ true → Taken made name
unfolding taken
taken-says made name e =
    let q = both (legal name) (not (made && special name)) e in
    record {
      legal = legal-says name q.0;
      not_special = λ m s. never_both (made && special name) (rw (m, says-special name s)) (not-true _ q.1);
    }

-- a test that cannot be true is false
not_so : (b : Bool) → (b ≡ true → ⊥) → b ≡ false
not_so true f = absurd (f refl)
not_so false f = refl

pub says-taken : (made : Bool) (name : List ℕ) → Taken made name → taken made name ≡ true
unfolding taken
says-taken true name h = rw (says-legal name h.legal, not_so (special name) (λ e. h.not_special refl (special-says name e)))
says-taken false name h = rw (says-legal name h.legal)

pub short-says : (name : List ℕ) → short name ≡ true → length name ≤ 255
unfolding short
short-says name e = leb-true (length name) 255 e

pub says-short : (name : List ℕ) → length name ≤ 255 → short name ≡ true
unfolding short
says-short name h = le-leb (length name) 255 h
