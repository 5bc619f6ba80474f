-- The attribute is FreeBSD's struct extattr: each field that is read or written stands where extattr.h has it, and its macros say the same. Assumes nothing.
use mathlib.Core.Path.{◌≡◌, refl}
use mathlib.Core.Bool.{false}
use mathlib.Core.List.{List}
use mathlib.Core.Option.{some}
use Prim.Native.Nat.{ℕ, ◌+◌, ◌-◌, ◌%◌}
use native.Mathlib.Nat.{add-zero}
use native.Mathlib.Omega.{arith}
use Rattle.field.specs.declared.Order.{Order}
use Rattle.headers.specs.Layout.{member, placed}
use Rattle.headers.specs.Extattr.{extattr, EXTATTR_BASE_LENGTH, EXTATTR_CONTENT, EXTATTR_CONTENT_SIZE, EXTATTR_NEXT, content_pad, extattr_length}
use Rattle.headers.specs.Read.{field_at, put_field}
use Rattle.attrrec.specs.declared.Entry.{Entry}
use Rattle.attrrec.specs.Record.{entry_at, gap, value_len}
use Rattle.attrrec.specs.Encode.{attr_pad, attr_length, put_header}

-- ---- reading

pub entry_header : (o : Order) (b : ℕ) (area : List ℕ)
    → entry_at o b area
    ≡ record {
      len = field_at o extattr (member "ea_length") b area;
      namespace = field_at o extattr (member "ea_namespace") b area;
      pad = field_at o extattr (member "ea_contentpadlen") b area;
      namelen = field_at o extattr (member "ea_namelength") b area;
    }
unfolding entry_at field_at
entry_header o b area = rw (add-zero b)

-- the name stands at ea_name
pub name-place : placed extattr (member "ea_name") ≡ some (record { at = 7; width = 1; signed = false })
unfolding placed extattr
name-place = refl

-- ---- writing

pub header_header : (o : Order) (b : ℕ) (e : Entry) (area : List ℕ)
    → put_header o b e area
    ≡ put_field o extattr (member "ea_namelength") b e.namelen
    (put_field o extattr (member "ea_contentpadlen") b e.pad
    (put_field o extattr (member "ea_namespace") b e.namespace
    (put_field o extattr (member "ea_length") b e.len area)))
unfolding put_header put_field
header_header o b e area = rw (add-zero b)

-- ---- the macros, at a place that is a multiple of 8

pub base_header : (n : ℕ) → gap 0 n ≡ EXTATTR_BASE_LENGTH n
unfolding gap EXTATTR_BASE_LENGTH
base_header n = omega arith

pub content_header : (b n : ℕ) → b % 8 ≡ 0 → b + gap b n ≡ EXTATTR_CONTENT b n
unfolding gap EXTATTR_CONTENT
content_header b n h = omega arith

pub value_header : (b : ℕ) (e : Entry) → b % 8 ≡ 0 → value_len b e ≡ EXTATTR_CONTENT_SIZE e.len e.namelen e.pad
unfolding value_len gap EXTATTR_CONTENT_SIZE
value_header b e h = omega arith

pub next_header : (b : ℕ) (e : Entry) → b + e.len ≡ EXTATTR_NEXT b e.len
unfolding EXTATTR_NEXT
next_header b e = refl

-- the one difference: 01 aligns in the area, extattr.h in the attribute; they part only behind a length that is no multiple of 8
pub content_parts : (4 + gap 4 1 ≡ 16) × (EXTATTR_CONTENT 4 1 ≡ 12)
unfolding gap EXTATTR_CONTENT
content_parts = (refl, refl)

-- ---- lengths of what is written

pub pad_header : (n : ℕ) → attr_pad n ≡ content_pad n
unfolding attr_pad content_pad
pad_header n = omega arith

pub length_header : (namelen n : ℕ) → attr_length namelen n ≡ extattr_length namelen n
unfolding attr_length attr_pad gap extattr_length
length_header namelen n = omega arith

-- 01: "Attribute user "id", 5-byte value: length 24, pad 3"
pub user-id : (attr_length 2 5 ≡ 24) × (attr_pad 5 ≡ 3)
unfolding attr_length attr_pad gap
user-id = (refl, refl)
