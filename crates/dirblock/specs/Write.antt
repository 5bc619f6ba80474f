-- 01, "Directory records and attributes": a record written, and `newdir`. Assumes nothing: these are definitions.
use Rattle.std.specs.Prelude.{List, [], ◌∷◌, ℕ, ◌+◌, ◌-◌, ◌≤◌}
use Rattle.field.specs.declared.Order.{Order}
use Rattle.field.specs.Field.{put, put_num, zeros}
use Rattle.dirblock.specs.declared.Entry.{Entry}

-- a record's header, written at pos
unfoldable pub put_header : Order → ℕ → Entry → List ℕ → List ℕ
put_header o pos e block =
    put_num o 1 (pos + 7) e.namelen
    (put_num o 1 (pos + 6) e.kind
    (put_num o 2 (pos + 4) e.reclen
    (put_num o 4 pos e.inr block)))

-- a record written at pos: "inode u32, length u16, type u8, name length u8, name", then zeros to its length
unfoldable pub put_rec : Order → ℕ → Entry → List ℕ → List ℕ → List ℕ
put_rec o pos e name block =
    put (pos + 8 + e.namelen) (zeros (e.reclen - (8 + e.namelen))) (put (pos + 8) name (put_header o pos e block))

-- the record has its name and lies in n bytes
pub record Fits (n pos : ℕ) (e : Entry) : Type 0 where
  pub name : 8 + e.namelen ≤ e.reclen
  pub inside : pos + e.reclen ≤ n

-- a directory's record: type 4
abbrev pub dir_entry : ℕ → ℕ → ℕ → Entry
dir_entry inr len n = record { inr = inr; reclen = len; kind = 4; namelen = n }

-- "newdir writes "." of length 264 and ".." of 248"
unfoldable pub newdir_block : Order → ℕ → ℕ → List ℕ
newdir_block o inr parent =
    put_rec o 264 (dir_entry parent 248 2) (46 ∷ 46 ∷ []) (put_rec o 0 (dir_entry inr 264 1) (46 ∷ []) (zeros 512))
