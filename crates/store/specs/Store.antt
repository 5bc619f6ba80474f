-- Stores of an image: a call's effect is a list of stores, and a store is some writes made together. Assumes nothing: these are definitions.
use Rattle.std.specs.Prelude.{Bool, true, false, List, [], ◌∷◌, ℕ, suc, ◌+◌, take, ltb}
use Rattle.field.specs.declared.Order.{Order}
use Rattle.field.specs.Field.{put, digits, turn}

-- bytes written from a place on
pub record Write : Type 0 where
  pub at : ℕ
  pub bytes : List ℕ

-- 01: "Stores, in order, each writing its named fields together"
abbrev pub Store : Type 0
Store = List Write

-- a number field of n bytes, in either byte order, as a write
unfoldable pub number : Order → ℕ → ℕ → ℕ → Write
number o n at v = record { at = at; bytes = turn o (digits n v) }

-- the image after one store
unfoldable pub apply : Store → List ℕ → List ℕ
apply [] img = img
apply (w ∷ s) img = apply s (put w.at w.bytes img)

-- the image after stores in order
unfoldable pub apply_all : List Store → List ℕ → List ℕ
apply_all [] img = img
apply_all (s ∷ ss) img = apply_all ss (apply s img)

-- one store, if it is to be made
unfoldable pub apply_if : Bool → Store → List ℕ → List ℕ
apply_if true s img = apply s img
apply_if false s img = img

-- 01: "made to stop after a given number of stores": the first k of them
unfoldable pub cut : ℕ → List Store → List ℕ → List ℕ
cut k ss img = apply_all (take k ss) img

-- the same as code with a limit k makes it: the store that n + j others come before is made if n + j is below k
abbrev pub in_turn : ℕ → ℕ → ℕ → List Store → List ℕ → List ℕ
in_turn k n j [] img = img
in_turn k n j (s ∷ ss) img = in_turn k n (suc j) ss (apply_if (ltb (n + j) k) s img)
