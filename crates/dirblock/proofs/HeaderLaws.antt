-- The record is FreeBSD's struct direct: each field that is read or written stands where dir.h has it. Assumes nothing.
use mathlib.Core.Path.{◌≡◌, refl}
use mathlib.Core.Logic.{◌≢◌}
use mathlib.Core.Bool.{false, not, ◌||◌}
use mathlib.Core.List.{List}
use mathlib.Core.Option.{some}
use Prim.Native.Nat.{ℕ, ◌+◌, ◌%◌}
use native.Mathlib.Nat.{add-zero}
use lib.Dec.{eqb}
use Rattle.field.specs.declared.Order.{Order}
use Rattle.headers.specs.Layout.{member, placed}
use Rattle.headers.specs.Dir.{direct, DIRECTSIZ, DT_UNKNOWN, DT_FIFO, DT_CHR, DT_DIR, DT_BLK, DT_REG, DT_LNK, DT_SOCK, DT_WHT}
use Rattle.headers.specs.Read.{field_at, put_field}
use Rattle.headers.proofs.MacroLaws.{DIRECTSIZ-same, DIRECTSIZ_longer}
use Rattle.dirblock.specs.declared.Entry.{Entry}
use Rattle.dirblock.specs.Record.{smallest_read, smallest_new, kind_known, entry_at, listed}
use Rattle.dirblock.specs.Write.{put_header}

-- ---- reading

pub entry_header : (o : Order) (pos : ℕ) (block : List ℕ)
    → entry_at o pos block
    ≡ record {
      inr = field_at o direct (member "d_ino") pos block;
      reclen = field_at o direct (member "d_reclen") pos block;
      kind = field_at o direct (member "d_type") pos block;
      namelen = field_at o direct (member "d_namlen") pos block;
    }
unfolding entry_at field_at
entry_header o pos block = rw (add-zero pos)

-- the name stands at d_name
pub name-place : placed direct (member "d_name") ≡ some (record { at = 8; width = 256; signed = false })
unfolding placed direct
name-place = refl

-- ---- writing

pub header_header : (o : Order) (pos : ℕ) (e : Entry) (block : List ℕ)
    → put_header o pos e block
    ≡ put_field o direct (member "d_namlen") pos e.namelen
    (put_field o direct (member "d_type") pos e.kind
    (put_field o direct (member "d_reclen") pos e.reclen
    (put_field o direct (member "d_ino") pos e.inr block)))
unfolding put_header put_field
header_header o pos e block = rw (add-zero pos)

-- ---- types

pub kinds_header : (k : ℕ)
    → kind_known k ≡ eqb k DT_FIFO || eqb k DT_CHR || eqb k DT_DIR || eqb k DT_BLK || eqb k DT_REG || eqb k DT_LNK || eqb k DT_SOCK || eqb k DT_WHT
unfolding kind_known
kinds_header k = refl

-- dir.h's one type more, which 01 refuses
pub unknown_refused : kind_known DT_UNKNOWN ≡ false
unfolding kind_known
unknown_refused = refl

pub whiteout_header : (e : Entry) → listed e ≡ not (eqb e.kind DT_WHT)
unfolding listed
whiteout_header e = refl

-- ---- smallest lengths: dir.h's has room for a NUL, so the two part exactly where the name fills its last four bytes

pub smallest_header : (n : ℕ) → n % 4 ≢ 0 → DIRECTSIZ n ≡ smallest_read n
unfolding smallest_read
smallest_header n h = DIRECTSIZ-same n h

pub smallest_parts : (n : ℕ) → n % 4 ≡ 0 → DIRECTSIZ n ≡ smallest_read n + 4
unfolding smallest_read
smallest_parts n h = DIRECTSIZ_longer n h

-- the two names have one rule in the base
pub smallest-one : (n : ℕ) → smallest_new n ≡ smallest_read n
unfolding smallest_new smallest_read
smallest-one n = refl
