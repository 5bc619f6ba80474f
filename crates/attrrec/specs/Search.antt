-- The first attribute of an area that has a text, and the list of all texts. Assumes nothing: these are definitions.
use Rattle.std.specs.Prelude.{Bool, true, false, ◌&&◌, List, [], ◌∷◌, ◌++◌, ℕ, Option, Some, None, Result, Ok, Err}
use Rattle.field.specs.declared.Order.{Order}
use Rattle.dirblock.specs.Search.{same_name}
use Rattle.attrrec.specs.Walk.{Item, Stop, ended, damaged, walk_from}
use Rattle.attrrec.specs.Text.{known, item_text, texts_of}
use Rattle.attrrec.specs.declared.Entry.{Entry}
use Rattle.refusal.specs.Refusal.{damage}
use Rattle.refusal.specs.declared.Damage.{Damage}

abbrev pub pick_find : Bool → Result (Option (ℕ × Entry)) Damage → Result (Option (ℕ × Entry)) Damage → Result (Option (ℕ × Entry)) Damage
pick_find true a b = a
pick_find false a b = b

-- the first of the attributes that p holds of; damage counts where the walk would meet it
unfoldable pub search_among : (Item → Bool) → List Item → Stop → Result (Option (ℕ × Entry)) Damage
search_among p [] ended = Ok None
search_among p [] damaged = Err damage
search_among p (i ∷ is) s = pick_find (p i) (Ok (Some (i.pos, i.entry))) (search_among p is s)

unfoldable pub search_from : (Item → Bool) → Order → List ℕ → ℕ → Result (Option (ℕ × Entry)) Damage
search_from p o area b = search_among p (walk_from o area b).attrs (walk_from o area b).stopped

-- "An attribute name asked for is only compared"
unfoldable pub named : List ℕ → List ℕ → Item → Bool
named area name i = known i.entry.namespace && same_name (item_text area i) name

unfoldable pub find_in : Order → List ℕ → List ℕ → Result (Option (ℕ × Entry)) Damage
find_in o area name = search_from (named area name) o area 0

-- what xattr_list writes; nothing where damage is met
pub data Texts : Type 0 where
  texts : List ℕ → Texts
  bad : Texts

abbrev pub texts_in : List ℕ → List Item → Stop → Texts
texts_in area is ended = texts (texts_of area is)
texts_in area is damaged = bad

unfoldable pub list_from : Order → List ℕ → ℕ → Texts
list_from o area b = texts_in area (walk_from o area b).attrs (walk_from o area b).stopped

unfoldable pub list_in : Order → List ℕ → Texts
list_in o area = list_from o area 0

-- the texts of all attributes before the walk stops
unfoldable pub all_texts : Order → List ℕ → List ℕ
all_texts o area = texts_of area (walk_from o area 0).attrs

-- a text before others
abbrev pub before : List ℕ → Texts → Texts
before t (texts ts) = texts (t ++ ts)
before t bad = bad
