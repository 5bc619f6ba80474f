-- A name linked into a block, and one unlinked from it: the block left and the answer. Assumes nothing: these are definitions.
use Rattle.std.specs.Prelude.{Bool, true, false, List, ℕ, ◌+◌, ◌≤◌, length, eqb, Option, Some, None, Result, Ok, Err}
use Rattle.field.specs.declared.Order.{Order}
use Rattle.dirblock.specs.declared.Entry.{Entry}
use Rattle.dirblock.specs.declared.Rec.{Rec}
use Rattle.dirblock.specs.declared.Rec.TheVariants as Rec
use Rattle.dirblock.specs.declared.Spot.{Spot}
use Rattle.dirblock.specs.declared.Linked.{Linked}
use Rattle.dirblock.specs.declared.Linked.TheVariants as Linked
use Rattle.dirblock.specs.declared.Unlinked.{Unlinked}
use Rattle.dirblock.specs.declared.Unlinked.TheVariants as Unlinked
use Rattle.dirblock.specs.Record.{smallest_read, entry_at, name_at, rec_at, slack, shrunk, absorb}
use Rattle.dirblock.specs.Search.{find_in, room_in}
use Rattle.dirblock.specs.Write.{put_rec}
use Rattle.refusal.specs.Refusal.{damage}
use Rattle.refusal.specs.declared.Damage.{Damage}

-- ---- linking

-- a new record that takes what e has beyond its smallest length
abbrev pub new_entry : Entry → ℕ → ℕ → List ℕ → Entry
new_entry e inr kind name = record { inr = inr; reclen = slack e; kind = kind; namelen = length name }

-- the record at pos cut down to its smallest length, and the new one behind it
unfoldable pub link_at : Order → List ℕ → ℕ → Entry → ℕ → ℕ → List ℕ → List ℕ
link_at o block pos e inr kind name =
    put_rec o (pos + smallest_read e.namelen) (new_entry e inr kind name) name (put_rec o pos (shrunk e) (name_at block pos e) block)

abbrev pub linking : Order → List ℕ → ℕ → ℕ → List ℕ → Result (Option (ℕ × Entry)) Damage → List ℕ × Result Linked Damage
linking o block inr kind name (Ok (Some (pos, e))) = (link_at o block pos e inr kind name, Ok Linked.Done)
linking o block inr kind name (Ok None) = (block, Ok Linked.Full)
linking o block inr kind name (Err harm) = (block, Err damage)

-- into the first record with room
unfoldable pub link_in : Order → List ℕ → ℕ → ℕ → List ℕ → List ℕ × Result Linked Damage
link_in o block inr kind name = linking o block inr kind name (room_in o block (length name))

-- ---- unlinking

-- a later record is absorbed by the one before it, at prev
unfoldable pub unlink_later : Order → List ℕ → ℕ → Entry → List ℕ × Result Unlinked Damage
unlink_later o block prev e =
    (put_rec o prev (absorb e.reclen (entry_at o prev block)) (name_at block prev (entry_at o prev block)) block, Ok (Unlinked.Done e.inr))

-- the first is absorbed by the next, which then stands first; alone, the block goes
abbrev pub by_next : Order → List ℕ → Entry → Rec → List ℕ × Result Unlinked Damage
by_next o block e (Rec.Used next) = (put_rec o 0 (absorb e.reclen next) (name_at block e.reclen next) block, Ok (Unlinked.Done e.inr))
by_next o block e (Rec.Unused next) = (put_rec o 0 (absorb e.reclen next) (name_at block e.reclen next) block, Ok (Unlinked.Done e.inr))
by_next o block e Rec.End = (block, Ok (Unlinked.Alone e.inr))
by_next o block e Rec.Bad = (block, Err damage)

unfoldable pub unlink_first : Order → List ℕ → Entry → List ℕ × Result Unlinked Damage
unlink_first o block e = by_next o block e (rec_at o block e.reclen)

abbrev pub pick_unlink : Bool → List ℕ × Result Unlinked Damage → List ℕ × Result Unlinked Damage → List ℕ × Result Unlinked Damage
pick_unlink true a b = a
pick_unlink false a b = b

unfoldable pub unlink_at : Order → List ℕ → Spot → List ℕ × Result Unlinked Damage
unlink_at o block s = pick_unlink (eqb s.pos 0) (unlink_first o block s.entry) (unlink_later o block s.prev s.entry)

abbrev pub unlinking : Order → List ℕ → Result (Option Spot) Damage → List ℕ × Result Unlinked Damage
unlinking o block (Ok (Some s)) = unlink_at o block s
unlinking o block (Ok None) = (block, Ok Unlinked.Absent)
unlinking o block (Err harm) = (block, Err damage)

-- the first record of that name, whiteouts too
unfoldable pub unlink_in : Order → List ℕ → List ℕ → List ℕ × Result Unlinked Damage
unlink_in o block name = unlinking o block (find_in o block name true)

-- ---- what the code is handed

-- p, a record at prev, and e behind it
pub record Behind (block : List ℕ) (prev : ℕ) (p e : Entry) : Type 0 where
  pub name : 8 + p.namelen ≤ p.reclen
  pub ends : prev + p.reclen + e.reclen ≤ length block
