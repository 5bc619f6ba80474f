-- Which bytes stores write, and which they leave. Assumes nothing: these are definitions.
use Rattle.std.specs.Prelude.{◌≡◌, List, [], ◌∷◌, ◌⊎◌, ℕ, ◌+◌, ◌<◌, ◌≤◌, length, get_or}
use Rattle.field.specs.Field.{part}
use Rattle.store.specs.Store.{Write, Store}

-- P holds of every element
pub data All {A : Type 0} (P : A → Type 0) : List A → Type 0 where
  none : All P []
  more : {x : A} {xs : List A} → P x → All P xs → All P (x ∷ xs)

-- byte i is not one that w writes; nor one of a store's writes; nor of some stores'
abbrev pub Apart : ℕ → Write → Type 0
Apart i w = (i < w.at) ⊎ (w.at + length w.bytes ≤ i)

abbrev pub Outside : ℕ → Store → Type 0
Outside i s = All (Apart i) s

abbrev pub OutsideAll : ℕ → List Store → Type 0
OutsideAll i ss = All (Outside i) ss

-- w writes bytes of Q alone; so does a store; so do some stores
abbrev pub WriteIn : (ℕ → Type 0) → Write → Type 0
WriteIn Q w = (j : ℕ) → w.at ≤ j → j < w.at + length w.bytes → Q j

abbrev pub StoreIn : (ℕ → Type 0) → Store → Type 0
StoreIn Q s = All (WriteIn Q) s

pub record Only (Q : ℕ → Type 0) (ss : List Store) : Type 0 where
  pub every : All (StoreIn Q) ss

-- byte j is one of the n bytes from a
abbrev pub Range : ℕ → ℕ → ℕ → Type 0
Range a n j = (a ≤ j) × (j < a + n)

-- ys is as xs but for the bytes of Q
pub record KeptBut (Q : ℕ → Type 0) (xs ys : List ℕ) : Type 0 where
  pub long : length ys ≡ length xs
  pub byte : (j : ℕ) → (Q j → ⊥) → get_or ys j 0 ≡ get_or xs j 0

-- what w would write is there already
pub record There (img : List ℕ) (w : Write) : Type 0 where
  pub fits : w.at + length w.bytes ≤ length img
  pub same : part (length w.bytes) w.at img ≡ w.bytes
