-- 01: the walk of an attribute area: its attributes in order, and how the walk stopped. Assumes nothing: these are definitions.
use Rattle.std.specs.Prelude.{List, [], ◌∷◌, ℕ, zero, suc, ◌+◌, length, Option, Some, None, Result, Ok, Err}
use Rattle.field.specs.declared.Order.{Order}
use Rattle.attrrec.specs.declared.Entry.{Entry}
use Rattle.attrrec.specs.Record.{attr_at}
use Rattle.refusal.specs.Refusal.{damage}
use Rattle.refusal.specs.declared.Damage.{Damage}

-- an attribute and its place
pub record Item : Type 0 where
  pub pos : ℕ
  pub entry : Entry

-- the end, or 97
pub data Stop : Type 0 where
  ended : Stop
  damaged : Stop

pub record Walk : Type 0 where
  pub attrs : List Item
  pub stopped : Stop

abbrev pub halt : Stop → Walk
halt s = record { attrs = []; stopped = s }

abbrev pub ahead : Item → Walk → Walk
ahead i w = record { attrs = i ∷ w.attrs; stopped = w.stopped }

-- the walk at b, by what stands there
abbrev pub onward : ℕ → Result (Option Entry) Damage → (ℕ → Walk) → Walk
onward b (Ok (Some e)) next = ahead (record { pos = b; entry = e }) (next (b + e.len))
onward b (Ok None) next = halt ended
onward b (Err harm) next = halt damaged

-- at most n turns of the walk
unfoldable pub walk_for : Order → List ℕ → ℕ → ℕ → Walk
walk_for o area zero b = halt ended
walk_for o area (suc n) b = onward b (attr_at o area b) (walk_for o area n)

-- the walk from b: an attribute is at least 8 bytes long, so these turns are enough (`WalkLaws.enough`)
unfoldable pub walk_from : Order → List ℕ → ℕ → Walk
walk_from o area b = walk_for o area (suc (length area)) b
