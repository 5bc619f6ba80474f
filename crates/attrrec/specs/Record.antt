-- 01, "Directory records and attributes": one attribute of an area. Assumes nothing: these are definitions.
use Rattle.std.specs.Prelude.{Bool, true, false, List, ℕ, ◌+◌, ◌-◌, ◌*◌, ◌/◌, length, eqb, ltb, Option, Some, None, Result, Ok, Err}
use Rattle.field.specs.declared.Order.{Order}
use Rattle.field.specs.Field.{num, part}
use Rattle.attrrec.specs.declared.Entry.{Entry}
use Rattle.refusal.specs.Refusal.{damage}
use Rattle.refusal.specs.declared.Damage.{Damage}

-- "Attributes: length u32, namespace, pad, name length (up to 64), name, .."
unfoldable pub entry_at : Order → ℕ → List ℕ → Entry
entry_at o b area =
    record {
      len = num o 4 b area;
      namespace = num o 1 (b + 4) area;
      pad = num o 1 (b + 5) area;
      namelen = num o 1 (b + 6) area;
    }

-- the name of the attribute at b
unfoldable pub name_at : List ℕ → ℕ → Entry → List ℕ
name_at area b e = part e.namelen (b + 7) area

-- "aligned to 8 in the area, value, pad": how far behind b the value begins
unfoldable pub gap : ℕ → ℕ → ℕ
gap b n = (b + 7 + n + 7) / 8 * 8 - b

-- how long the value is, and its bytes
unfoldable pub value_len : ℕ → Entry → ℕ
value_len b e = e.len - gap b e.namelen - e.pad

unfoldable pub value_at : List ℕ → ℕ → Entry → List ℕ
value_at area b e = part (value_len b e) (b + gap b e.namelen) area

-- the one where the test holds, else the other
abbrev pub pick_attr : Bool → Result (Option Entry) Damage → Result (Option Entry) Damage → Result (Option Entry) Damage
pick_attr true a b = a
pick_attr false a b = b

-- "A short header, name length 0 or over 64 ends the walk; .. lengths that do not fit, are 97"
unfoldable pub judged : ℕ → ℕ → Entry → Result (Option Entry) Damage
judged b left e =
    pick_attr (ltb left 7) (Ok None)
    (pick_attr (eqb e.namelen 0) (Ok None)
    (pick_attr (ltb 64 e.namelen) (Ok None)
    (pick_attr (ltb left (7 + e.namelen)) (Err damage)
    (pick_attr (ltb e.len (gap b e.namelen)) (Err damage)
    (pick_attr (ltb left e.len) (Err damage)
    (pick_attr (ltb (e.len - gap b e.namelen) e.pad) (Err damage) (Ok (Some e))))))))

-- what stands at b of an area of any length
unfoldable pub attr_at : Order → List ℕ → ℕ → Result (Option Entry) Damage
attr_at o area b = judged b (length area - b) (entry_at o b area)
