-- 01: an attribute written: "length u32, namespace, pad, name length (up to 64), name, aligned to 8 in the area, value, pad". Assumes nothing: these are definitions.
use Rattle.std.specs.Prelude.{List, ℕ, ◌+◌, ◌-◌, ◌*◌, ◌/◌, length}
use Rattle.field.specs.declared.Order.{Order}
use Rattle.field.specs.Field.{put, put_num, zeros}
use Rattle.attrrec.specs.declared.Entry.{Entry}
use Rattle.attrrec.specs.Record.{gap}

-- the zeros behind a value of n bytes, so that the next attribute is aligned
unfoldable pub attr_pad : ℕ → ℕ
attr_pad n = (n + 7) / 8 * 8 - n

-- the length of the whole, at a place that is aligned
unfoldable pub attr_length : ℕ → ℕ → ℕ
attr_length namelen n = gap 0 namelen + n + attr_pad n

unfoldable pub new_entry : ℕ → List ℕ → List ℕ → Entry
new_entry ns name value =
    record { len = attr_length (length name) (length value); namespace = ns; pad = attr_pad (length value); namelen = length name }

-- the header, written at b
unfoldable pub put_header : Order → ℕ → Entry → List ℕ → List ℕ
put_header o b e area =
    put_num o 1 (b + 6) e.namelen (put_num o 1 (b + 5) e.pad (put_num o 1 (b + 4) e.namespace (put_num o 4 b e.len area)))

-- an attribute written at b: what is not header, name or value is zeros
unfoldable pub put_attr : Order → ℕ → ℕ → List ℕ → List ℕ → List ℕ → List ℕ
put_attr o b ns name value area =
    put (b + gap 0 (length name)) value
    (put (b + 7) name
    (put_header o b (new_entry ns name value)
    (put b (zeros (attr_length (length name) (length value))) area)))

-- an attribute that stands alone
unfoldable pub encode : Order → ℕ → List ℕ → List ℕ → List ℕ
encode o ns name value = put_attr o 0 ns name value (zeros (attr_length (length name) (length value)))
