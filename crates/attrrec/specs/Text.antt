-- extattr.h's namespaces, as the Rust writes them before a name. Assumes nothing: these are definitions.
use Rattle.std.specs.Prelude.{Bool, cond, List, [], ◌∷◌, ◌++◌, ℕ, ◌+◌, length, eqb, ltb}
use Rattle.attrrec.specs.declared.Entry.{Entry}
use Rattle.attrrec.specs.Record.{name_at}
use Rattle.attrrec.specs.Walk.{Item}

-- namespaces 0, 1 and 2 have a name; attributes of others are passed over
unfoldable pub known : ℕ → Bool
known ns = ltb ns 3

-- "", "user.", "system."
unfoldable pub prefix : ℕ → List ℕ
prefix ns = cond (eqb ns 0) [] (cond (eqb ns 1) (117 ∷ 115 ∷ 101 ∷ 114 ∷ 46 ∷ []) (115 ∷ 121 ∷ 115 ∷ 116 ∷ 101 ∷ 109 ∷ 46 ∷ []))

-- the text of an attribute
unfoldable pub text_of : ℕ → List ℕ → List ℕ
text_of ns name = prefix ns ++ name

abbrev pub item_text : List ℕ → Item → List ℕ
item_text area i = text_of i.entry.namespace (name_at area i.pos i.entry)

-- what an attribute adds to the list: its text and a NUL, or nothing; and how many bytes these are
unfoldable pub shown_text : List ℕ → Item → List ℕ
shown_text area i = cond (known i.entry.namespace) (item_text area i ++ (0 ∷ [])) []

unfoldable pub shown_len : Entry → ℕ
shown_len e = cond (known e.namespace) (length (prefix e.namespace) + e.namelen + 1) 0

unfoldable pub texts_of : List ℕ → List Item → List ℕ
texts_of area [] = []
texts_of area (i ∷ is) = shown_text area i ++ texts_of area is
