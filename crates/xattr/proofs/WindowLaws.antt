-- A part of the area that was copied out reads as the area does. Assumes nothing.
use Rattle.std.specs.Prelude.{None, Ok}
use mathlib.Core.Path.{◌≡◌, refl, sym, ap, ◌∙◌}
use mathlib.Core.Bool.{Bool, ◌&&◌}
use mathlib.Core.List.{List}
use Prim.Native.Nat.{ℕ, ◌+◌, ◌-◌, ◌≤◌, ◌<◌}
use native.Mathlib.Nat.{sub-zero}
use native.Mathlib.Omega.{arith}
use lib.ListN.{length, get_or}
use lib.Seq.{ext_get_or}
use Rattle.field.specs.declared.Order.{Order}
use Rattle.field.specs.Field.{num, part, put, value, turn}
use Rattle.field.proofs.Laws.{length-part, length-put, get_or-part, part-put}
use Rattle.dirblock.specs.Search.{same_name}
use Rattle.attrrec.specs.declared.Entry.{Entry}
use Rattle.attrrec.specs.Record.{entry_at, name_at, judged, attr_at}
use Rattle.attrrec.specs.Text.{known, text_of}
use Rattle.attrrec.specs.Search.{named}
use Rattle.attrrec.proofs.RecordLaws.{attr-judged, judged-tail}
use Rattle.xattr.specs.declared.Area.{Area}
use Rattle.xattr.specs.Area.{gathered, Inside}
use Rattle.xattr.proofs.AreaLaws.{length-gathered}

-- a part of a part
pub part-inner : (m k n b : ℕ) (xs : List ℕ) → k + m ≤ n → b + n ≤ length xs → part m k (part n b xs) ≡ part m (b + k) xs
part-inner m k n b xs h r =
    let l = length-part n b xs r in
    let v = length-part m k (part n b xs) (omega arith) in
    let w = length-part m (b + k) xs (omega arith) in
    ext_get_or 0 (part m k (part n b xs)) (part m (b + k) xs) (v ∙ sym w)
    (λ i s. get_or-part m k (part n b xs) i (omega arith) ∙ get_or-part n b xs (k + i) (omega arith) ∙ ap (λ (j : ℕ). get_or xs j 0) (omega arith) ∙ sym (get_or-part m (b + k) xs i (omega arith)))

-- its first n bytes, where they were copied to the front of a buffer
pub window : (n b : ℕ) (xs buf now : List ℕ) → b + n ≤ length xs → n ≤ length buf → now ≡ put 0 (part n b xs) buf → part n 0 now ≡ part n b xs
window n b xs buf now r h e =
    let l = length-part n b xs r in
    rw e (ap (λ (m : ℕ). part m 0 (put 0 (part n b xs) buf)) (sym l) ∙ part-put 0 (part n b xs) buf (omega arith))

num_window : (o : Order) (w k n b : ℕ) (xs now : List ℕ) → k + w ≤ n → b + n ≤ length xs → n ≤ length now → part n 0 now ≡ part n b xs → num o w (0 + k) now ≡ num o w (b + k) xs
unfolding num
num_window o w k n b xs now h r l e =
    ap (λ (p : List ℕ). value (turn o p)) (sym (part-inner w k n 0 now h (omega arith)) ∙ ap (part w k) e ∙ part-inner w k n b xs h r)

-- a header that was copied out
pub entry_window : (o : Order) (b : ℕ) (xs now : List ℕ) → b + 7 ≤ length xs → 7 ≤ length now → part 7 0 now ≡ part 7 b xs → entry_at o 0 now ≡ entry_at o b xs
unfolding entry_at
entry_window o b xs now r l e =
    rw (sym (num-zero o 0 now) ∙ num_window o 4 0 7 b xs now (omega arith) r l e ∙ num-zero o b xs, num_window o 1 4 7 b xs now (omega arith) r l e, num_window o 1 5 7 b xs now (omega arith) r l e, num_window o 1 6 7 b xs now (omega arith) r l e)
  where
    num-zero : (o : Order) (b : ℕ) (xs : List ℕ) → num o 4 (b + 0) xs ≡ num o 4 b xs
    num-zero o b xs = ap (λ (k : ℕ). num o 4 k xs) (omega arith)

-- ---- what the walk meets

module _ (o : Order) (a : Area) (img : List ℕ) (i : Inside a img) (b left : ℕ) (rest : left ≡ a.size - b) where
  pub met-tail : left < 7 → attr_at o (gathered a img) b ≡ Ok None
  met-tail h =
      attr-judged o (gathered a img) b left (entry_at o b (gathered a img)) (rest ∙ ap (λ (n : ℕ). n - b) (sym (length-gathered a img i))) refl
      ∙ judged-tail b left (entry_at o b (gathered a img)) h

  pub met : 7 ≤ left → (buf head : List ℕ) → 7 ≤ length buf → head ≡ put 0 (part 7 b (gathered a img)) buf → (e : Entry) → e ≡ entry_at o 0 head → attr_at o (gathered a img) b ≡ judged b left e
  met h buf head l q e r =
      let g = length-gathered a img i in
      let n : length head ≡ length buf = ap length q ∙ length-put 0 (part 7 b (gathered a img)) buf in
      attr-judged o (gathered a img) b left e (rest ∙ ap (λ (n : ℕ). n - b) (sym g))
      (r ∙ entry_window o b (gathered a img) head (omega arith) (omega arith) (window 7 b (gathered a img) buf head (omega arith) l q))

-- a name that was copied out and compared
pub named_told : (area : List ℕ) (b : ℕ) (e : Entry) (name buf text : List ℕ) (r : Bool) → b + 7 + e.namelen ≤ length area → e.namelen ≤ length buf
    → text ≡ put 0 (part e.namelen (b + 7) area) buf → r ≡ known e.namespace && same_name (text_of e.namespace (part (e.namelen - 0) 0 text)) name
    → r ≡ named area name (record { pos = b; entry = e })
unfolding named name_at
named_told area b e name buf text r h l q t =
    t ∙ ap (λ (x : List ℕ). known e.namespace && same_name (text_of e.namespace x) name) (ap (λ (m : ℕ). part m 0 text) (sub-zero e.namelen) ∙ window e.namelen (b + 7) area buf text h l q)
