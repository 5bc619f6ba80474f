-- 01: "Walking a block": its records in order, and how and where the walk stopped. Assumes nothing: these are definitions.
use Rattle.std.specs.Prelude.{List, [], ◌∷◌, ℕ, zero, suc, ◌+◌, length}
use Rattle.field.specs.declared.Order.{Order}
use Rattle.dirblock.specs.declared.Entry.{Entry}
use Rattle.dirblock.specs.declared.Rec.{Rec}
use Rattle.dirblock.specs.declared.Rec.TheVariants.{Used, Unused, End, Bad}
use Rattle.dirblock.specs.Record.{rec_at}

-- a record and its place
pub record Item : Type 0 where
  pub pos : ℕ
  pub entry : Entry

-- "end" or "97", and the offset where the walk stopped
pub data Stop : Type 0 where
  ended : ℕ → Stop
  damaged : ℕ → Stop

pub record Walk : Type 0 where
  pub records : List Item
  pub stopped : Stop

abbrev pub halt : Stop → Walk
halt s = record { records = []; stopped = s }

abbrev pub ahead : Item → Walk → Walk
ahead i w = record { records = i ∷ w.records; stopped = w.stopped }

-- the walk at pos, by what stands there
abbrev pub onward : ℕ → Rec → (ℕ → Walk) → Walk
onward pos (Used e) next = ahead (record { pos = pos; entry = e }) (next (pos + e.reclen))
onward pos (Unused e) next = next (pos + e.reclen)
onward pos End next = halt (ended pos)
onward pos Bad next = halt (damaged pos)

-- at most n turns of the walk
unfoldable pub walk_for : Order → List ℕ → ℕ → ℕ → Walk
walk_for o block zero pos = halt (ended pos)
walk_for o block (suc n) pos = onward pos (rec_at o block pos) (walk_for o block n)

-- the walk from pos: a record is at least 8 bytes long, so these turns are enough (`WalkLaws.enough`)
unfoldable pub walk_from : Order → List ℕ → ℕ → Walk
walk_from o block pos = walk_for o block (suc (length block)) pos

abbrev pub records_from : Order → List ℕ → ℕ → List Item
records_from o block pos = (walk_from o block pos).records
