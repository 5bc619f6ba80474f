-- What a walk shows of a block: each record's inode, type and name, in order. The theorems are about this. Assumes nothing.
use Rattle.std.specs.Prelude.{◌≡◌, Bool, true, false, cond, not, ◌&&◌, List, [], ◌∷◌, ℕ, ◌+◌, eqb, Option, Some, None, Result, Ok, Err}
use Rattle.field.specs.declared.Order.{Order}
use Rattle.dirblock.specs.Record.{name_at}
use Rattle.dirblock.specs.Walk.{Item, Stop, ended, damaged, walk_from}
use Rattle.dirblock.specs.Search.{same_name}
use Rattle.dirblock.specs.declared.Spot.{Spot}
use Rattle.refusal.specs.Refusal.{damage}
use Rattle.refusal.specs.declared.Damage.{Damage}

pub record Shown : Type 0 where
  pub inr : ℕ
  pub kind : ℕ
  pub name : List ℕ

abbrev pub shown : List ℕ → Item → Shown
shown block i = record { inr = i.entry.inr; kind = i.entry.kind; name = name_at block i.pos i.entry }

unfoldable pub shown_all : List ℕ → List Item → List Shown
shown_all block [] = []
shown_all block (i ∷ is) = shown block i ∷ shown_all block is

-- what the walk of a block shows
unfoldable pub shows : Order → List ℕ → List Shown
shows o block = shown_all block (walk_from o block 0).records

-- whether the walk of a block ends, or meets damage
pub data Health : Type 0 where
  whole : Health
  hurt : Health

abbrev pub health_of : Stop → Health
health_of (ended pos) = whole
health_of (damaged pos) = hurt

unfoldable pub health : Order → List ℕ → Health
health o block = health_of (walk_from o block 0).stopped

-- the place where a walk stopped
abbrev pub stop_place : Stop → ℕ
stop_place (ended pos) = pos
stop_place (damaged pos) = pos

-- the records lie one behind the other from pos to q
abbrev pub Tiles : ℕ → List Item → ℕ → Type 0
Tiles pos [] q = pos ≡ q
Tiles pos (i ∷ is) q = (i.pos ≡ pos) × Tiles (pos + i.entry.reclen) is q

-- what a search by name answers, but for the places
pub data Looked : Type 0 where
  inode : ℕ → Looked
  absent : Looked
  bad : Looked

abbrev pub looked_of : Result (Option Spot) Damage → Looked
looked_of (Ok (Some s)) = inode s.entry.inr
looked_of (Ok None) = absent
looked_of (Err harm) = bad

-- a record of that name, and not a whiteout where these do not count
unfoldable pub wanted : List ℕ → Bool → Shown → Bool
wanted name whiteouts x = cond whiteouts true (not (eqb x.kind 14)) && same_name x.name name

abbrev pub pick_looked : Bool → Looked → Looked → Looked
pick_looked true a b = a
pick_looked false a b = b

-- the first one of that name among what is shown
unfoldable pub look_among : (Shown → Bool) → List Shown → Health → Looked
look_among p [] whole = absent
look_among p [] hurt = bad
look_among p (x ∷ xs) h = pick_looked (p x) (inode x.inr) (look_among p xs h)
