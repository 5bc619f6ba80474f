-- The laws of `specs/Search.antt`: a search hits, passes on or stops. Assumes nothing.
use Rattle.std.specs.Prelude.{Some, None, Ok, Err}
use mathlib.Core.Path.{◌≡◌, refl, sym, ap, ◌∙◌}
use mathlib.Core.Bool.{Bool, true, false, ◌&&◌}
use mathlib.Core.List.{List, [], ◌∷◌}
use Prim.Native.Nat.{ℕ, ◌+◌, ◌≤◌, ◌<◌}
use native.Mathlib.Omega.{arith}
use lib.ListN.{length}
use lib.Dec.{eqb}
use borrow.Author.Tests.{eqb-true, eq-eqb, le-leb, lt-leb}
use Rattle.field.specs.declared.Order.{Order}
use Rattle.field.specs.Field.{part}
use Rattle.field.proofs.Laws.{length-part}
use Rattle.dirblock.specs.declared.Entry.{Entry}
use Rattle.dirblock.specs.declared.Rec.TheVariants.{Used, End, Bad}
use Rattle.dirblock.specs.Record.{rec_at, name_at, slack, smallest_new}
use Rattle.dirblock.specs.Walk.{Item, Stop, ended, damaged, walk_from}
use Rattle.dirblock.specs.Search.{pick_find, search_among, search_from, same_name, named, find_in, roomy, room_of, room_in}
use Rattle.dirblock.proofs.WalkLaws.{walk-used, walk_end, walk-bad}
use Rattle.refusal.specs.Refusal.{damage}

-- ---- one turn of a search

module _ (p : Item → Bool) (o : Order) (block : List ℕ) (prev pos : ℕ) where
  pub search-hit : (e : Entry) → rec_at o block pos ≡ Used e → p (record { pos = pos; entry = e }) ≡ true
      → search_from p o block prev pos ≡ Ok (Some (record { pos = pos; prev = prev; entry = e }))
  unfolding search_from search_among
  search-hit e h t = rw (walk-used o block pos e h, t)

  pub search-pass : (e : Entry) → rec_at o block pos ≡ Used e → p (record { pos = pos; entry = e }) ≡ false
      → search_from p o block prev pos ≡ search_from p o block pos (pos + e.reclen)
  unfolding search_from search_among
  search-pass e h t = rw (walk-used o block pos e h, t)

  pub search-end : rec_at o block pos ≡ End → search_from p o block prev pos ≡ Ok None
  unfolding search_from search_among
  search-end h = rw (walk_end o block pos h)

  pub search-bad : rec_at o block pos ≡ Bad → search_from p o block prev pos ≡ Err damage
  unfolding search_from search_among
  search-bad h = rw (walk-bad o block pos h)

-- ---- names

same-itself : (xs : List ℕ) → same_name xs xs ≡ true
unfolding same_name
same-itself [] = refl
same-itself (x ∷ xs) = rw (eq-eqb x x refl, same-itself xs)

pub same-name : (xs ys : List ℕ) → xs ≡ ys → same_name xs ys ≡ true
same-name xs ys q = rw q (same-itself ys)

both : (a b : Bool) → a && b ≡ true → (a ≡ true) × (b ≡ true)
both true true e = (refl, refl)
both true false e = absurd (let z : ◌≡◌ {A = ℕ} 0 1 = cc in let y : ⊥ = omega arith in y)
both false b e = absurd (let z : ◌≡◌ {A = ℕ} 0 1 = cc in let y : ⊥ = omega arith in y)

never_both : (a : Bool) → a ≡ true → a ≡ false → ⊥
never_both a t f = let z : ◌≡◌ {A = ℕ} 0 1 = cc in omega arith

pub name-same : (xs ys : List ℕ) → same_name xs ys ≡ true → xs ≡ ys
unfolding same_name
name-same [] [] e = refl
name-same [] (y ∷ ys) e = absurd (never_both false e refl)
name-same (x ∷ xs) [] e = absurd (never_both false e refl)
name-same (x ∷ xs) (y ∷ ys) e =
    let b = both (eqb x y) (same_name xs ys) e in
    let q = eqb-true x y b.0 in
    let r = name-same xs ys b.1 in
    cc

-- a test that cannot be true is false
not_so : (b : Bool) → (b ≡ true → ⊥) → b ≡ false
not_so true f = absurd (f refl)
not_so false f = refl

pub other-name : (xs ys : List ℕ) → (xs ≡ ys → ⊥) → same_name xs ys ≡ false
other-name xs ys f = not_so (same_name xs ys) (λ t. f (name-same xs ys t))

-- ---- room: the place of the record before does not matter

room-among : (p : Item → Bool) (a b : ℕ) (is : List Item) (s : Stop) → room_of (search_among p a is s) ≡ room_of (search_among p b is s)
unfolding search_among
room-among p a b [] (ended at) = refl
room-among p a b [] (damaged at) = refl
room-among p a b (i ∷ is) s = go (p i)
  where
    go : (t : Bool) → room_of (pick_find t (Ok (Some (record { pos = i.pos; prev = a; entry = i.entry }))) (search_among p i.pos is s)) ≡ room_of (pick_find t (Ok (Some (record { pos = i.pos; prev = b; entry = i.entry }))) (search_among p i.pos is s))
    go true = refl
    go false = refl

pub room_prev : (p : Item → Bool) (o : Order) (block : List ℕ) (a b pos : ℕ) → room_of (search_from p o block a pos) ≡ room_of (search_from p o block b pos)
unfolding search_from
room_prev p o block a b pos = room-among p a b (walk_from o block pos).records (walk_from o block pos).stopped

-- ---- where the searches start

pub find_start : (o : Order) (block name : List ℕ) (whiteouts : Bool) → search_from (named block name whiteouts) o block 0 0 ≡ find_in o block name whiteouts
unfolding find_in
find_start o block name whiteouts = refl

pub room_start : (o : Order) (block : List ℕ) (n : ℕ) → room_of (search_from (roomy n) o block 0 0) ≡ room_in o block n
unfolding room_in
room_start o block n = refl

-- ---- a name asked for, as `same_bytes` tells it

module _ (block name : List ℕ) (pos : ℕ) (e : Entry) where
  pub name-told : (r : Bool) → e.namelen ≡ length name
      → (r ≡ true → part (length name) (pos + 8) block ≡ name)
      → (r ≡ false → part (length name) (pos + 8) block ≡ name → ⊥)
      → r ≡ same_name (name_at block pos e) name
  unfolding name_at
  name-told true q y n = sym (rw q (same-name _ _ (y refl)))
  name-told false q y n = sym (rw q (other-name _ _ (n refl)))

  pub name-long : pos + 8 + e.namelen ≤ length block → (e.namelen ≡ length name → ⊥) → false ≡ same_name (name_at block pos e) name
  unfolding name_at
  name-long h d = sym (other-name _ _ (λ q. d (sym (length-part e.namelen (pos + 8) block h) ∙ ap length q)))

-- ---- one turn of the search for room

module _ (n : ℕ) (o : Order) (block : List ℕ) (pos : ℕ) where
  pub room-hit : (e : Entry) → rec_at o block pos ≡ Used e → smallest_new n ≤ slack e → room_of (search_from (roomy n) o block 0 pos) ≡ Ok (Some (pos, e))
  unfolding roomy
  room-hit e h t = rw (search-hit (roomy n) o block 0 pos e h (le-leb (smallest_new n) (slack e) t))

  pub room-pass : (e : Entry) → rec_at o block pos ≡ Used e → slack e < smallest_new n
      → room_of (search_from (roomy n) o block 0 pos) ≡ room_of (search_from (roomy n) o block 0 (pos + e.reclen))
  unfolding roomy
  room-pass e h t =
      ap room_of (search-pass (roomy n) o block 0 pos e h (lt-leb (smallest_new n) (slack e) t)) ∙ room_prev (roomy n) o block pos 0 (pos + e.reclen)

  pub room-end : rec_at o block pos ≡ End → room_of (search_from (roomy n) o block 0 pos) ≡ Ok None
  room-end h = rw (search-end (roomy n) o block 0 pos h)

  pub room-bad : rec_at o block pos ≡ Bad → room_of (search_from (roomy n) o block 0 pos) ≡ Err damage
  room-bad h = rw (search-bad (roomy n) o block 0 pos h)
