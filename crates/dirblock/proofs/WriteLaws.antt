-- The laws of `specs/Write.antt`: what a written record keeps, and how it is read again. Assumes nothing.
use mathlib.Core.Path.{◌≡◌, sym, ap, ◌∙◌}
use mathlib.Core.List.{List, [], ◌∷◌}
use mathlib.Core.Logic.{inr}
use Prim.Native.Nat.{ℕ, ◌+◌, ◌≤◌}
use native.Mathlib.Omega.{arith}
use lib.ListN.{length}
use lib.Seq.{take_all}
use Rattle.field.specs.declared.Order.{Order}
use Rattle.field.specs.Field.{part, put, zeros}
use Rattle.field.proofs.Laws.{length-put, length-put_num, put-part, part-put_num-after}
use Rattle.dirblock.specs.declared.Entry.{Entry}
use Rattle.dirblock.specs.Record.{name_at}
use Rattle.dirblock.specs.Write.{put_header, put_rec, dir_entry, newdir_block}

pub length_header : (o : Order) (pos : ℕ) (e : Entry) (block : List ℕ) → length (put_header o pos e block) ≡ length block
unfolding put_header
length_header o pos e block = simp length-put_num

pub length_rec : (o : Order) (pos : ℕ) (e : Entry) (name block : List ℕ) → length (put_rec o pos e name block) ≡ length block
unfolding put_rec
length_rec o pos e name block = simp (length-put, length_header)

-- a whole list is its own part
pub part-whole : (n : ℕ) (xs : List ℕ) → length xs ≡ n → part n 0 xs ≡ xs
unfolding part
part-whole n xs h = take_all n xs (omega arith)

-- a header keeps what stands behind it
pub part_header : (o : Order) (pos : ℕ) (e : Entry) (block : List ℕ) (m at : ℕ) → pos + 8 ≤ at → part m at (put_header o pos e block) ≡ part m at block
unfolding put_header
part_header o pos e block m at h =
    part-put_num-after o 1 (pos + 7) e.namelen _ m at (omega arith)
    ∙ part-put_num-after o 1 (pos + 6) e.kind _ m at (omega arith)
    ∙ part-put_num-after o 2 (pos + 4) e.reclen _ m at (omega arith)
    ∙ part-put_num-after o 4 pos e.inr block m at (omega arith)

-- a name that stands in its place is written by writing the header alone
pub name-stands : (o : Order) (pos : ℕ) (e : Entry) (block : List ℕ) → pos + 8 + e.namelen ≤ length block
    → put (pos + 8) (name_at block pos e) (put_header o pos e block) ≡ put_header o pos e block
unfolding name_at
name-stands o pos e block h =
    ap (λ (l : List ℕ). put (pos + 8) l (put_header o pos e block)) (sym (part_header o pos e block e.namelen (pos + 8) (omega arith)))
    ∙ put-part e.namelen (pos + 8) (put_header o pos e block) (omega (arith, length_header o pos e block))

-- the two records of a new directory, one after the other
pub newdir_told : (o : Order) (ino parent : ℕ) (self out : List ℕ) → self ≡ put_rec o 0 (dir_entry ino 264 1) (46 ∷ []) (zeros 512)
    → out ≡ put_rec o 264 (dir_entry parent 248 2) (46 ∷ 46 ∷ []) self → out ≡ newdir_block o ino parent
unfolding newdir_block
newdir_told o ino parent self out p q = rw (q, p)
