-- The first record of a walk that is asked for: by its name, or by the room it has. Assumes nothing: these are definitions.
use Rattle.std.specs.Prelude.{Bool, true, false, cond, ◌&&◌, List, [], ◌∷◌, ℕ, eqb, leb, Option, Some, None, Result, Ok, Err}
use Rattle.field.specs.declared.Order.{Order}
use Rattle.dirblock.specs.Record.{listed, findable, slack, smallest_new, name_at}
use Rattle.dirblock.specs.Walk.{Item, Stop, ended, damaged, walk_from}
use Rattle.dirblock.specs.declared.Entry.{Entry}
use Rattle.dirblock.specs.declared.Spot.{Spot}
use Rattle.refusal.specs.Refusal.{damage}
use Rattle.refusal.specs.declared.Damage.{Damage}

abbrev pub pick_find : Bool → Result (Option Spot) Damage → Result (Option Spot) Damage → Result (Option Spot) Damage
pick_find true a b = a
pick_find false a b = b

-- the first of the records that p holds of, with the place of the one before it; damage counts where the walk would meet it
unfoldable pub search_among : (Item → Bool) → ℕ → List Item → Stop → Result (Option Spot) Damage
search_among p prev [] (ended at) = Ok None
search_among p prev [] (damaged at) = Err damage
search_among p prev (i ∷ is) s =
    pick_find (p i) (Ok (Some (record { pos = i.pos; prev = prev; entry = i.entry }))) (search_among p i.pos is s)

unfoldable pub search_from : (Item → Bool) → Order → List ℕ → ℕ → ℕ → Result (Option Spot) Damage
search_from p o block prev pos = search_among p prev (walk_from o block pos).records (walk_from o block pos).stopped

-- two lists of bytes are the same
unfoldable pub same_name : List ℕ → List ℕ → Bool
same_name [] [] = true
same_name [] (y ∷ ys) = false
same_name (x ∷ xs) [] = false
same_name (x ∷ xs) (y ∷ ys) = eqb x y && same_name xs ys

-- a record of that name, listed or, where whiteouts count, findable
unfoldable pub named : List ℕ → List ℕ → Bool → Item → Bool
named block name whiteouts i =
    cond whiteouts (findable i.entry) (listed i.entry) && same_name (name_at block i.pos i.entry) name

-- dir_lookup's search of one block, and unlink's
unfoldable pub find_in : Order → List ℕ → List ℕ → Bool → Result (Option Spot) Damage
find_in o block name whiteouts = search_from (named block name whiteouts) o block 0 0

-- a record, of any type, with room for a new one whose name is n bytes long
unfoldable pub roomy : ℕ → Item → Bool
roomy n i = leb (smallest_new n) (slack i.entry)

abbrev pub room_of : Result (Option Spot) Damage → Result (Option (ℕ × Entry)) Damage
room_of (Ok (Some s)) = Ok (Some (s.pos, s.entry))
room_of (Ok None) = Ok None
room_of (Err harm) = Err damage

-- dir_newlink's search of one block
unfoldable pub room_in : Order → List ℕ → ℕ → Result (Option (ℕ × Entry)) Damage
room_in o block n = room_of (search_from (roomy n) o block 0 0)
