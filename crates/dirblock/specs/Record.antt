-- 01, "Directory records and attributes": one record of a directory block. Assumes nothing: these are definitions.
use Rattle.std.specs.Prelude.{Bool, true, false, not, ◌||◌, List, ℕ, ◌+◌, ◌-◌, ◌*◌, ◌/◌, length, eqb, ltb}
use Rattle.field.specs.declared.Order.{Order}
use Rattle.field.specs.Field.{num, part}
use Rattle.dirblock.specs.declared.Entry.{Entry}
use Rattle.dirblock.specs.declared.Rec.{Rec}
use Rattle.dirblock.specs.declared.Rec.TheVariants.{Used, End, Bad}

-- "Smallest length: (8 + n + 3) with the low two bits cleared": of a record that is read
unfoldable pub smallest_read : ℕ → ℕ
smallest_read n = (8 + n + 3) / 4 * 4

-- and of one that is made
unfoldable pub smallest_new : ℕ → ℕ
smallest_new n = (8 + n + 3) / 4 * 4

-- "type not 1, 2, 4, 6, 8, 10, 12 or 14, 97"
unfoldable pub kind_known : ℕ → Bool
kind_known k = eqb k 1 || eqb k 2 || eqb k 4 || eqb k 6 || eqb k 8 || eqb k 10 || eqb k 12 || eqb k 14

-- "Record: inode u32, length u16, type u8, name length u8, name"
unfoldable pub entry_at : Order → ℕ → List ℕ → Entry
entry_at o pos block =
    record {
      inr = num o 4 pos block;
      reclen = num o 2 (pos + 4) block;
      kind = num o 1 (pos + 6) block;
      namelen = num o 1 (pos + 7) block;
    }

-- the name of the record at pos
unfoldable pub name_at : List ℕ → ℕ → Entry → List ℕ
name_at block pos e = part e.namelen (pos + 8) block

-- the one where the test holds, else the other
abbrev pub pick_rec : Bool → Rec → Rec → Rec
pick_rec true a b = a
pick_rec false a b = b

-- "fewer than 8 bytes left, end; length 0, end; length below the smallest or past the block, 97; inode 0, end; type not .., 97"
unfoldable pub judged : ℕ → Entry → Rec
judged left e =
    pick_rec (ltb left 8) End
    (pick_rec (eqb e.reclen 0) End
    (pick_rec (ltb e.reclen (smallest_read e.namelen)) Bad
    (pick_rec (ltb left e.reclen) Bad
    (pick_rec (eqb e.inr 0) End
    (pick_rec (kind_known e.kind) (Used e) Bad)))))

-- what stands at pos of a block of any length
unfoldable pub rec_at : Order → List ℕ → ℕ → Rec
rec_at o block pos = judged (length block - pos) (entry_at o pos block)

-- "Type 14 is not listed by dir_iter"
unfoldable pub listed : Entry → Bool
listed e = not (eqb e.kind 14)

-- any record of a known type is found by unlinking, whiteouts too
unfoldable pub findable : Entry → Bool
findable e = true

-- what a record has beyond its smallest length
unfoldable pub slack : Entry → ℕ
slack e = e.reclen - smallest_read e.namelen

-- a record that is n bytes longer
unfoldable pub absorb : ℕ → Entry → Entry
absorb n e = record { inr = e.inr; reclen = e.reclen + n; kind = e.kind; namelen = e.namelen }

-- a record cut down to its smallest length
unfoldable pub shrunk : Entry → Entry
shrunk e = record { inr = e.inr; reclen = smallest_read e.namelen; kind = e.kind; namelen = e.namelen }
