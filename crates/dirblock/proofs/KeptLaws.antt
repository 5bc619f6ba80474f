-- What a write into one record leaves of the walk: the records before it and behind it are walked and shown as before. Assumes nothing.
use mathlib.Core.Path.{◌≡◌, refl, sym, ap, ap₂, subst, ◌∙◌}
use mathlib.Core.List.{List, [], ◌∷◌, ◌++◌}
use mathlib.Core.Logic.{◌⊎◌, inl, inr}
use Prim.Native.Nat.{ℕ, zero, suc, ◌+◌, ◌≤◌}
use native.Mathlib.Omega.{arith}
use lib.ListN.{length}
use Rattle.field.specs.declared.Order.{Order}
use Rattle.field.specs.Field.{Kept}
use Rattle.field.proofs.Laws.{kept-num, kept-part}
use Rattle.dirblock.specs.declared.Entry.{Entry}
use Rattle.dirblock.specs.declared.Rec.{Rec}
use Rattle.dirblock.specs.declared.Rec.TheVariants.{Used, Unused, End, Bad}
use Rattle.dirblock.specs.Record.{entry_at, name_at, rec_at}
use Rattle.dirblock.specs.Walk.{Item, Walk, ahead, onward, walk_for, walk_from}
use Rattle.dirblock.specs.Shown.{Shown, shown, shown_all}
use Rattle.dirblock.proofs.RecordLaws.{held, smallest-low}
use Rattle.dirblock.proofs.WalkLaws.{sized, walk-used}
use Rattle.dirblock.proofs.FoundLaws.{Leads, here, over}

-- ---- where a walk leads

abbrev pub item : ℕ → Entry → Item
item pos e = record { pos = pos; entry = e }

pub leads_le : (o : Order) (a : List ℕ) {pos q : ℕ} {xs : List Item} → Leads o a pos xs q → pos ≤ q
leads_le o a here = omega arith
leads_le o a (over e h r) = omega (arith, leads_le o a r)

pub leads_on : (o : Order) (a : List ℕ) {pos q : ℕ} {xs : List Item} (e : Entry) → Leads o a pos xs q → rec_at o a q ≡ Used e
    → Leads o a pos (xs ++ (item q e ∷ [])) (q + e.reclen)
leads_on o a e here h = over e h here
leads_on o a e (over f g r) h = over f g (leads_on o a e r h)

-- two walks from one place to one place: the places by equations, as the records of both are matched
leads-same_at : (o : Order) (a : List ℕ) {p q p' q' : ℕ} {xs ys : List Item} → p ≡ p' → q ≡ q' → Leads o a p xs q → Leads o a p' ys q' → xs ≡ ys
leads-same_at o a _ _ here here = refl
leads-same_at o a i j here (over {pos = pos} f g s) = absurd (let k = sized o a pos f g in let z : ⊥ = omega (arith, k.long, leads_le o a s) in z)
leads-same_at o a i j (over {pos = pos} e h r) here = absurd (let k = sized o a pos e h in let z : ⊥ = omega (arith, k.long, leads_le o a r) in z)
leads-same_at o a i j (over {pos = p} e h r) (over {pos = p'} f g s) =
    let d : Used e ≡ Used f = sym h ∙ ap (rec_at o a) i ∙ g in
    let same : e ≡ f = cc in
    let next : p + e.reclen ≡ p' + f.reclen = cc in
    let rest = leads-same_at o a next j r s in
    cc

-- a walk leads to a place over one list of records only
pub leads-same : (o : Order) (a : List ℕ) {pos q : ℕ} {xs ys : List Item} → Leads o a pos xs q → Leads o a pos ys q → xs ≡ ys
leads-same o a r s = leads-same_at o a refl refl r s

-- these records, and then that walk
abbrev pub after_these : List Item → Walk → Walk
after_these xs w = record { records = xs ++ w.records; stopped = w.stopped }

pub leads-walk : (o : Order) (a : List ℕ) {pos q : ℕ} {xs : List Item} → Leads o a pos xs q → walk_from o a pos ≡ after_these xs (walk_from o a q)
leads-walk o a here = refl
leads-walk o a (over {pos = pos} e h r) = walk-used o a pos e h ∙ ap (ahead (item pos e)) (leads-walk o a r)

-- ---- what is shown

pub shown_append : (a : List ℕ) (xs ys : List Item) → shown_all a (xs ++ ys) ≡ shown_all a xs ++ shown_all a ys
unfolding shown_all
shown_append a [] ys = refl
shown_append a (x ∷ xs) ys = ap (λ (l : List Shown). shown a x ∷ l) (shown_append a xs ys)

pub shown-one : (a : List ℕ) (i : Item) (is : List Item) → shown_all a (i ∷ is) ≡ shown a i ∷ shown_all a is
unfolding shown_all
shown-one a i is = refl

-- ---- b is as a outside the n bytes from lo

module _ (o : Order) {lo n : ℕ} {a b : List ℕ} (k : Kept lo n a b) where
  side : (q i m : ℕ) → i + m ≤ 8 → (q + 8 ≤ lo) ⊎ (lo + n ≤ q) → (q + i + m ≤ lo) ⊎ (lo + n ≤ q + i)
  side q i m l (inl h) = inl (omega arith)
  side q i m l (inr h) = inr (omega arith)

  start-side : (q : ℕ) → (q + 8 ≤ lo) ⊎ (lo + n ≤ q) → (q + 4 ≤ lo) ⊎ (lo + n ≤ q)
  start-side q (inl h) = inl (omega arith)
  start-side q (inr h) = inr h

  pub entry-kept : (q : ℕ) → (q + 8 ≤ lo) ⊎ (lo + n ≤ q) → entry_at o q b ≡ entry_at o q a
  unfolding entry_at
  entry-kept q h =
      rw (kept-num o 4 q k (start-side q h), kept-num o 2 (q + 4) k (side q 4 2 (omega arith) h), kept-num o 1 (q + 6) k (side q 6 1 (omega arith) h), kept-num o 1 (q + 7) k (side q 7 1 (omega arith) h))

  pub rec-kept : (q : ℕ) → (q + 8 ≤ lo) ⊎ (lo + n ≤ q) → rec_at o b q ≡ rec_at o a q
  unfolding rec_at
  rec-kept q h = rw (k.long, entry-kept q h)

  pub name-kept : (q : ℕ) (e : Entry) → (q + 8 + e.namelen ≤ lo) ⊎ (lo + n ≤ q + 8) → name_at b q e ≡ name_at a q e
  unfolding name_at
  name-kept q e h = kept-part e.namelen (q + 8) k h

  -- records before
  pub leads-kept : {pos q : ℕ} {xs : List Item} → Leads o a pos xs q → q ≤ lo → Leads o b pos xs q
  leads-kept here l = here
  leads-kept (over {pos = pos} e h r) l =
      let s = sized o a pos e h in
      over e (rec-kept pos (inl (omega (arith, s.long, leads_le o a r))) ∙ h) (leads-kept r l)

  pub shown-before : {pos q : ℕ} {xs : List Item} → Leads o a pos xs q → q ≤ lo → shown_all b xs ≡ shown_all a xs
  unfolding shown_all
  shown-before here l = refl
  shown-before (over {pos = pos} e h r) l =
      let d = held o a pos e h in
      ap₂ (λ (x : List ℕ) (y : List Shown). record { inr = e.inr; kind = e.kind; name = x } ∷ y)
      (name-kept pos e (inl (omega (arith, d.least, smallest-low e.namelen, leads_le o a r))))
      (shown-before r l)

  -- records behind
  walk-behind : (m pos : ℕ) → lo + n ≤ pos → walk_for o b m pos ≡ walk_for o a m pos
  unfolding walk_for
  walk-behind zero pos l = refl
  walk-behind (suc m) pos l = rw (rec-kept pos (inr l)) (go (rec_at o a pos) refl (walk-behind m))
    where
      go : (r : Rec) → rec_at o a pos ≡ r → ((q : ℕ) → lo + n ≤ q → walk_for o b m q ≡ walk_for o a m q) → onward pos r (walk_for o b m) ≡ onward pos r (walk_for o a m)
      go (Used e) h f = ap (ahead (item pos e)) (f (pos + e.reclen) (omega arith))
      go (Unused e) h f = f (pos + e.reclen) (omega arith)
      go End h f = refl
      go Bad h f = refl

  pub walk_kept : (pos : ℕ) → lo + n ≤ pos → walk_from o b pos ≡ walk_from o a pos
  unfolding walk_from
  walk_kept pos l = rw k.long (walk-behind (suc (length a)) pos l)

  shown-behind : (m pos : ℕ) → lo + n ≤ pos → shown_all b (walk_for o a m pos).records ≡ shown_all a (walk_for o a m pos).records
  unfolding walk_for shown_all
  shown-behind zero pos l = refl
  shown-behind (suc m) pos l = go (rec_at o a pos) (shown-behind m)
    where
      go : (r : Rec) → ((q : ℕ) → lo + n ≤ q → shown_all b (walk_for o a m q).records ≡ shown_all a (walk_for o a m q).records)
          → shown_all b (onward pos r (walk_for o a m)).records ≡ shown_all a (onward pos r (walk_for o a m)).records
      go (Used e) f =
          ap₂ (λ (x : List ℕ) (y : List Shown). record { inr = e.inr; kind = e.kind; name = x } ∷ y)
          (name-kept pos e (inr (omega arith)))
          (f (pos + e.reclen) (omega arith))
      go (Unused e) f = f (pos + e.reclen) (omega arith)
      go End f = refl
      go Bad f = refl

  pub shown-kept : (pos : ℕ) → lo + n ≤ pos → shown_all b (walk_from o a pos).records ≡ shown_all a (walk_from o a pos).records
  unfolding walk_from
  shown-kept pos l = shown-behind (suc (length a)) pos l
