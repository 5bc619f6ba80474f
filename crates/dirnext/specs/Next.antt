-- 01, "Directory records and attributes": the cursor that stands for dir_iter. Assumes nothing: these are definitions.
use Rattle.std.specs.Prelude.{Bool, true, false, List, [], ℕ, zero, suc, ◌+◌, ◌-◌, ◌*◌, ◌/◌, ◌%◌, length, eqb, ltb, leb, Option, Some, None, Result, Ok, Err}
use Rattle.field.specs.Field.{put, part}
use Rattle.field.specs.declared.Order.{Order}
use Rattle.refusal.specs.declared.Refusal.TheVariants.{Damaged, NotDirectory, BufferTooSmall}
use Rattle.store.specs.Act.{Out, got, refused}
use Rattle.volume.specs.declared.Geometry.{Geometry}
use Rattle.inode.specs.Size.{pick}
use Rattle.inode.specs.Shape.{is_dir}
use Rattle.inode.specs.Kind.{kind_of}
use Rattle.inode_run.specs.declared.Spot.{Spot}
use Rattle.inode_read.specs.Calls.{Place, place_in}
use Rattle.dirblock.specs.Record.{listed}
use Rattle.dirblock.specs.Search.{search_from}
use Rattle.dirblock.specs.Walk.{Item}
use Rattle.dirfile.specs.Block.{dir_block}
use Rattle.dirnext.specs.declared.DirEntry.{DirEntry}
use Rattle.dirblock.specs.declared.Spot as place
use Rattle.inode.specs.declared.InodeType.{InodeType}
use Rattle.refusal.specs.Refusal.{damage}
use Rattle.refusal.specs.declared.Damage.{Damage}
use Rattle.refusal.specs.declared.Refusal.{Refusal}

-- ---- one block

abbrev pub is_listed : Item → Bool
is_listed i = listed i.entry

-- "Type 14 is not listed by dir_iter": the first record from pos on that is
unfoldable pub listed_from : Order → List ℕ → ℕ → Result (Option place.Spot) Damage
listed_from o block pos = search_from is_listed o block pos pos

-- ---- the blocks, upward

-- a record that is told, or that there is none
pub data Told : Type 0 where
  entry : DirEntry → Told
  last : Told

-- "Names .. are handed back as parts of a lent buffer": inode, kind, where the name lies in the block, and the place behind the record
abbrev pub told_as : ℕ → ℕ → ℕ → ℕ → ℕ → Option InodeType → Out Told
told_as k pos inr reclen namelen (Some t) = got (entry (record { inr = inr; kind = t; from = pos + 8; len = namelen; next = k * 512 + pos + reclen }))
told_as k pos inr reclen namelen None = refused Damaged

abbrev pub by_find : ℕ → List ℕ → Result (Option place.Spot) Damage → (List ℕ → List ℕ × Out Told) → List ℕ × Out Told
by_find k buf (Ok (Some s)) next = (buf, told_as k s.pos s.entry.inr s.entry.reclen s.entry.namelen (kind_of s.entry.kind))
by_find k buf (Ok None) next = next buf
by_find k buf (Err harm) next = (buf, refused Damaged)

-- a block that is read stands in the buffer from then on; one that cannot be read leaves it
abbrev pub by_block : Order → ℕ → ℕ → List ℕ → Out (List ℕ) → (List ℕ → List ℕ × Out Told) → List ℕ × Out Told
by_block o k pos buf (got b) next = by_find k (put 0 b buf) (listed_from o b pos) next
by_block o k pos buf (refused e) next = (buf, refused Damaged)

-- n blocks from block k on, the first of them from its byte pos on
unfoldable pub next_among : Geometry → ℕ → ℕ → List ℕ → ℕ → ℕ → ℕ → List ℕ → List ℕ × Out Told
next_among geo at size img zero k pos buf = (buf, got last)
next_among geo at size img (suc n) k pos buf = by_block geo.order k pos buf (dir_block geo at size img k) (next_among geo at size img n (k + 1) 0)

-- ---- the call

-- from the place `cur` on, of the directory of that size whose record is at `at`
unfoldable pub next_from : Geometry → ℕ → ℕ → List ℕ → ℕ → List ℕ → List ℕ × Out Told
next_from geo at size img cur buf = next_among geo at size img (size / 512 - cur / 512) (cur / 512) (cur % 512) buf

-- "kind (.., 20, ..)", "a size that is no multiple is 97", "34"
unfoldable pub next_found : Geometry → Spot → List ℕ → ℕ → List ℕ → List ℕ × Out Told
next_found geo s img cur buf =
    pick (is_dir s.shape)
    (pick (eqb (s.shape.size % 512) 0)
    (pick (leb 512 (length buf)) (next_from geo s.at s.shape.size img cur buf) (buf, refused BufferTooSmall))
    (buf, refused Damaged))
    (buf, refused NotDirectory)

abbrev pub next_in : List ℕ → ℕ → List ℕ → Out Place → List ℕ × Out Told
next_in img cur buf (got p) = next_found p.geo p.spot img cur buf
next_in img cur buf (refused e) = (buf, refused e)

unfoldable pub dir_next : List ℕ → ℕ → ℕ → List ℕ → List ℕ × Out Told
dir_next img i cur buf = next_in img cur buf (place_in img i)

-- ---- the code's answers

abbrev pub next_of : Out Told → Result (Option DirEntry) Refusal
next_of (got (entry e)) = Ok (Some e)
next_of (got last) = Ok None
next_of (refused e) = Err e

abbrev pub next_answer : List ℕ × Out Told → List ℕ × Result (Option DirEntry) Refusal
next_answer p = (p.0, next_of p.1)

-- a block read into the buffer, or not
abbrev pub fetched : List ℕ → Out (List ℕ) → List ℕ × Bool
fetched buf (got b) = (put 0 b buf, true)
fetched buf (refused e) = (buf, false)

-- the name that an entry tells of; an entry that was not told for this buffer may reach past it, and then has none
unfoldable pub entry_name : List ℕ → DirEntry → List ℕ
entry_name buf e = pick (leb (e.from + e.len) (length buf)) (part e.len e.from buf) []
