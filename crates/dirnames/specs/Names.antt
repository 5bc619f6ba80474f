-- 01, "Numbers given back": the names that are 22 and 63. Assumes nothing: these are definitions.
use Rattle.std.specs.Prelude.{Bool, true, false, not, ◌&&◌, ◌||◌, List, [], ◌∷◌, ℕ, eqb, leb, length}

-- neither "/" nor NUL
unfoldable pub plain : ℕ → Bool
plain b = not (eqb b 47 || eqb b 0)

-- every byte of them is
unfoldable pub all_plain : List ℕ → Bool
all_plain [] = true
all_plain (b ∷ bs) = plain b && all_plain bs

-- "22: .. empty name, "/" or NUL in it"
unfoldable pub legal : List ℕ → Bool
legal [] = false
legal (b ∷ bs) = all_plain (b ∷ bs)

-- "." or ".."
unfoldable pub special : List ℕ → Bool
special [] = false
special (a ∷ []) = eqb a 46
special (a ∷ b ∷ []) = eqb a 46 && eqb b 46
special (a ∷ b ∷ c ∷ cs) = false

-- "22: .. "." or ".." where a name is made, renamed or passed to rmdir"
unfoldable pub taken : Bool → List ℕ → Bool
taken made name = legal name && not (made && special name)

-- "63: name over 255 bytes"
unfoldable pub short : List ℕ → Bool
short name = leb (length name) 255
