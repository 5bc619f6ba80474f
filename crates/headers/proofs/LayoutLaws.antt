-- 01's numbers are the headers' (`named-right`, `sizes-right`), and a named member reads as the number at its place. By computation. Assumes nothing.
use mathlib.Core.Path.{◌≡◌, refl, ap}
use mathlib.Core.Bool.{Bool, true, false, ◌&&◌}
use mathlib.Core.List.{List}
use mathlib.Core.Option.{Option, none, some}
use Prim.Native.Nat.{ℕ, ◌+◌, ◌*◌}
use lib.Dec.{T, eqb, eqb→eq}
use Rattle.field.specs.Field.{num, put_num}
use Rattle.field.specs.declared.Order.{Order}
use Rattle.headers.specs.Layout.{CType, struct, array, pointer, end, ◌∶◌⨾◌, int32, uint8, uint16, uint64, sizeof, Designator, member, ◌‣◌, ◌!◌, located, locate, Placed, placed}
use Rattle.headers.specs.Fs.{fs, ufs2_daddr}
use Rattle.headers.specs.Dinode.{ufs2_dinode, shortlink_size}
use Rattle.headers.specs.Named.{Row, same, agrees, row_right, named, rows_right, wholes, sizes_right}
use Rattle.headers.specs.Read.{num_at, put_at, field_at, put_field}

-- C's padding, which the headers' own structs never need: struct { uint8 c; int32 n; struct { uint8 a; uint16 b; } i[2]; void *p; uint8 e[3]; }
abbrev padded : CType
padded =
    struct ("c" ∶ uint8 ⨾ "n" ∶ int32 ⨾ "i" ∶ array (struct ("a" ∶ uint8 ⨾ "b" ∶ uint16 ⨾ end)) 2 ⨾ "p" ∶ pointer ⨾ "e" ∶ array uint8 3 ⨾ end)

pub record Padded : Type 0 where
  pub number : locate padded (member "n") ≡ located 4 int32
  pub inner : locate padded (member "i" ! 1 ‣ "b") ≡ located 14 uint16
  pub address : locate padded (member "p") ≡ located 16 pointer
  pub whole : sizeof padded ≡ 32

pub padding_worked : Padded
unfolding locate sizeof
padding_worked = record { number = refl; inner = refl; address = refl; whole = refl }

-- every row of 01's table is what the layout says
pub named-right : T (rows_right named)
unfolding named rows_right
named-right = tt

-- every size that 01 leans on is the header's
pub sizes-right : T (sizes_right wholes)
unfolding wholes sizes_right
sizes-right = tt

-- 01: "addresses fill 112 to 231": the room of a short link's text is that of the addresses, and ends where di_modrev begins
pub shortlink_room : (locate ufs2_dinode (member "di_db") ≡ located 112 (array ufs2_daddr 12)) × (locate ufs2_dinode (member "di_modrev") ≡ located (112 + shortlink_size) uint64)
unfolding locate ufs2_dinode shortlink_size
shortlink_room = (refl, refl)

-- a name that is not there is absent
pub absent-name : placed fs (member "fs_cstotal" ‣ "fs_magic") ≡ none
unfolding placed fs
absent-name = refl

-- ---- reading and writing by name

both : (a b : Bool) → T (a && b) → T a × T b
both true true t = (tt, tt)
both true false t = absurd t
both false b t = absurd t

same_sign : (a b : Bool) → T (same a b) → a ≡ b
same_sign true true t = refl
same_sign true false t = absurd t
same_sign false true t = absurd t
same_sign false false t = refl

agreed : (m : Option Placed) (q : Placed) → T (agrees m q) → m ≡ some q
unfolding agrees
agreed none q t = absurd t
agreed (some p) q t =
    let sign = both (eqb p.at q.at && eqb p.width q.width) (same p.signed q.signed) t in
    let place = both (eqb p.at q.at) (eqb p.width q.width) sign.0 in
    let at = eqb→eq p.at q.at place.0 in
    let width = eqb→eq p.width q.width place.1 in
    let signed = same_sign p.signed q.signed sign.1 in
    λ i. some (record { at = at i; width = width i; signed = signed i })

-- a row that is right says what the layout says
pub row-placed : (r : Row) → T (row_right r) → placed r.of r.name ≡ some r.said
unfolding row_right
row-placed r t = agreed (placed r.of r.name) r.said t

-- a member is read, and written, as the number of its width at its place
module _ (o : Order) (t : CType) (p : Designator) (base : ℕ) (q : Placed) (e : placed t p ≡ some q) where
  pub field_at-placed : (img : List ℕ) → field_at o t p base img ≡ num o q.width (base + q.at) img
  unfolding field_at
  field_at-placed img = ap (λ (m : Option Placed). num_at o m base img) e

  pub put_field-placed : (v : ℕ) (img : List ℕ) → put_field o t p base v img ≡ put_num o q.width (base + q.at) v img
  unfolding put_field
  put_field-placed v img = ap (λ (m : Option Placed). put_at o m base v img) e

-- how a codec is tied to the header, by one `unfolding field_at`: a member, a member of a member, an element
pub sblkno-read : (o : Order) (base : ℕ) (img : List ℕ) → field_at o fs (member "fs_sblkno") base img ≡ num o 4 (base + 8) img
unfolding field_at
sblkno-read o base img = refl

pub total-read : (o : Order) (img : List ℕ) → field_at o fs (member "fs_cstotal" ‣ "cs_nbfree") 65536 img ≡ num o 8 66552 img
unfolding field_at
total-read o img = refl

pub direct-put : (o : Order) (base i v : ℕ) (img : List ℕ) → put_field o ufs2_dinode (member "di_db" ! i) base v img ≡ put_num o 8 (base + (112 + i * 8)) v img
unfolding put_field
direct-put o base i v img = refl
