-- What a search that found a record says: the walk leads to it, and no record passed is one. Assumes nothing.
use Rattle.std.specs.Prelude.{Option, Some, None, Result, Ok, Err}
use mathlib.Core.Path.{◌≡◌, ap, refl, subst}
use mathlib.Core.Bool.{Bool, true, false}
use mathlib.Core.List.{List, [], ◌∷◌}
use mathlib.Core.Logic.{◌⊎◌, inl, inr}
use Prim.Native.Nat.{ℕ, zero, suc, ◌+◌, ◌≤◌}
use native.Mathlib.Omega.{arith}
use lib.ListN.{length}
use borrow.Author.Tests.{leb-true}
use Rattle.field.specs.declared.Order.{Order}
use Rattle.dirblock.specs.declared.Entry.{Entry}
use Rattle.dirblock.specs.declared.Spot.{Spot}
use Rattle.dirblock.specs.declared.Rec.{Rec}
use Rattle.dirblock.specs.declared.Rec.TheVariants.{Used, Unused, End, Bad}
use Rattle.dirblock.specs.Record.{rec_at, slack, smallest_new}
use Rattle.dirblock.specs.Walk.{Item, onward, walk_for, walk_from}
use Rattle.dirblock.specs.Search.{pick_find, search_among, search_from, named, find_in, roomy, room_of, room_in}
use Rattle.dirblock.proofs.RecordLaws.{never-unused}
use Rattle.refusal.specs.Refusal.{damage}
use Rattle.refusal.specs.declared.Damage.{Damage}

-- the walk goes from pos over the records xs to q
pub data Leads (o : Order) (block : List ℕ) : ℕ → List Item → ℕ → Type 0 where
  here : {pos : ℕ} → Leads o block pos [] pos
  over : {pos q : ℕ} {xs : List Item} (e : Entry) → rec_at o block pos ≡ Used e → Leads o block (pos + e.reclen) xs q
      → Leads o block pos (record { pos = pos; entry = e } ∷ xs) q

-- p holds of none of these
abbrev pub NoneOf : (Item → Bool) → List Item → Type 0
NoneOf p [] = Unit {0}
NoneOf p (i ∷ is) = (p i ≡ false) × NoneOf p is

-- the record q at prev stands just before `at`
pub record Prior (o : Order) (block : List ℕ) (pos prev at : ℕ) : Type 0 where
  pub passed : List Item
  pub entry : Entry
  pub leads : Leads o block pos passed prev
  pub there : rec_at o block prev ≡ Used entry
  pub next : prev + entry.reclen ≡ at

pub record FoundAt (p : Item → Bool) (o : Order) (block : List ℕ) (prev pos : ℕ) (s : Spot) : Type 0 where
  pub there : rec_at o block s.pos ≡ Used s.entry
  pub holds : p (record { pos = s.pos; entry = s.entry }) ≡ true
  pub passed : List Item
  pub leads : Leads o block pos passed s.pos
  pub none : NoneOf p passed
  pub after : pos ≤ s.pos
  pub before : ((s.pos ≡ pos) × (s.prev ≡ prev)) ⊎ Prior o block pos s.prev s.pos

absent-at : (s : Spot) → ◌≡◌ {A = Result (Option Spot) Damage} (Ok None) (Ok (Some s)) → ⊥
absent-at s e = let z : ◌≡◌ {A = ℕ} 0 1 = cc in omega arith

bad-at : (s : Spot) → ◌≡◌ {A = Result (Option Spot) Damage} (Err damage) (Ok (Some s)) → ⊥
bad-at s e = let z : ◌≡◌ {A = ℕ} 0 1 = cc in omega arith

module _ (p : Item → Bool) (o : Order) (block : List ℕ) (s : Spot) where
  stopped-here : (prev pos : ℕ) (e : Entry) → rec_at o block pos ≡ Used e → p (record { pos = pos; entry = e }) ≡ true
      → ◌≡◌ {A = Result (Option Spot) Damage} (Ok (Some (record { pos = pos; prev = prev; entry = e }))) (Ok (Some s)) → FoundAt p o block prev pos s
  stopped-here prev pos e h t q =
      let r : record { pos = pos; prev = prev; entry = e } ≡ s = cc in
      subst (FoundAt p o block prev pos) r
      (record { there = h; holds = t; passed = []; leads = here; none = tt {0}; after = omega arith; before = inl (refl, refl) })

  passed_on : (prev pos : ℕ) (e : Entry) → rec_at o block pos ≡ Used e → p (record { pos = pos; entry = e }) ≡ false
      → FoundAt p o block pos (pos + e.reclen) s → FoundAt p o block prev pos s
  passed_on prev pos e h t f =
      record {
        there = f.there;
        holds = f.holds;
        passed = record { pos = pos; entry = e } ∷ f.passed;
        leads = over e h f.leads;
        none = (t, f.none);
        after = omega (arith, f.after);
        before = inr (go f.before);
      }
    where
      go : ((s.pos ≡ pos + e.reclen) × (s.prev ≡ pos)) ⊎ Prior o block (pos + e.reclen) s.prev s.pos → Prior o block pos s.prev s.pos
      go (inl (a, b)) = rw (a, b) (record { passed = []; entry = e; leads = here; there = h; next = refl })
      go (inr r) = record { passed = record { pos = pos; entry = e } ∷ r.passed; entry = r.entry; leads = over e h r.leads; there = r.there; next = r.next }

  found-for : (n prev pos : ℕ) → search_among p prev (walk_for o block n pos).records (walk_for o block n pos).stopped ≡ Ok (Some s) → FoundAt p o block prev pos s
  unfolding search_among walk_for
  found-for zero prev pos q = absurd (absent-at s q)
  found-for (suc n) prev pos q = go (rec_at o block pos) refl q (found-for n)
    where
      told : (e : Entry) → rec_at o block pos ≡ Used e → (t : Bool) → p (record { pos = pos; entry = e }) ≡ t
          → pick_find t (Ok (Some (record { pos = pos; prev = prev; entry = e }))) (search_among p pos (walk_for o block n (pos + e.reclen)).records (walk_for o block n (pos + e.reclen)).stopped) ≡ Ok (Some s)
          → ((a b : ℕ) → search_among p a (walk_for o block n b).records (walk_for o block n b).stopped ≡ Ok (Some s) → FoundAt p o block a b s)
          → FoundAt p o block prev pos s
      told e h true t q f = stopped-here prev pos e h t q
      told e h false t q f = passed_on prev pos e h t (f pos (pos + e.reclen) q)

      go : (k : Rec) → rec_at o block pos ≡ k
          → search_among p prev (onward pos k (walk_for o block n)).records (onward pos k (walk_for o block n)).stopped ≡ Ok (Some s)
          → ((a b : ℕ) → search_among p a (walk_for o block n b).records (walk_for o block n b).stopped ≡ Ok (Some s) → FoundAt p o block a b s)
          → FoundAt p o block prev pos s
      go (Used e) h q f = told e h (p (record { pos = pos; entry = e })) refl q f
      go (Unused e) h q f = absurd (never-unused o block pos e h)
      go End h q f = absurd (absent-at s q)
      go Bad h q f = absurd (bad-at s q)

  pub found : (prev pos : ℕ) → search_from p o block prev pos ≡ Ok (Some s) → FoundAt p o block prev pos s
  unfolding search_from walk_from
  found prev pos q = found-for (suc (length block)) prev pos q

pub find-found : (o : Order) (block name : List ℕ) (whiteouts : Bool) (s : Spot) → find_in o block name whiteouts ≡ Ok (Some s) → FoundAt (named block name whiteouts) o block 0 0 s
unfolding find_in
find-found o block name whiteouts s q = found (named block name whiteouts) o block s 0 0 q

-- ---- a record with room

pub record RoomAt (o : Order) (block : List ℕ) (n pos : ℕ) (e : Entry) : Type 0 where
  pub there : rec_at o block pos ≡ Used e
  pub wide : smallest_new n ≤ slack e
  pub passed : List Item
  pub leads : Leads o block 0 passed pos

pub room-found : (o : Order) (block : List ℕ) (n pos : ℕ) (e : Entry) → room_in o block n ≡ Ok (Some (pos, e)) → RoomAt o block n pos e
unfolding room_in roomy
room-found o block n pos e q = go (search_from (roomy n) o block 0 0) refl q
  where
    told : (s : Spot) → FoundAt (roomy n) o block 0 0 s → ◌≡◌ {A = Result (Option (ℕ × Entry)) Damage} (Ok (Some (s.pos, s.entry))) (Ok (Some (pos, e))) → RoomAt o block n pos e
    told s f q =
        let w : ◌≡◌ {A = ℕ × Entry} (s.pos, s.entry) (pos, e) = cc in
        let a : s.pos ≡ pos = ap (λ (x : ℕ × Entry). x.0) w in
        let b : s.entry ≡ e = ap (λ (x : ℕ × Entry). x.1) w in
        rw (← a, ← b) (record { there = f.there; wide = leb-true (smallest_new n) (slack s.entry) f.holds; passed = f.passed; leads = f.leads })

    go : (k : Result (Option Spot) Damage) → search_from (roomy n) o block 0 0 ≡ k → room_of k ≡ Ok (Some (pos, e)) → RoomAt o block n pos e
    go (Ok (Some s)) h q = told s (found (roomy n) o block s 0 0 h) q
    go (Ok None) h q = absurd (let z : ◌≡◌ {A = ℕ} 0 1 = cc in let y : ⊥ = omega arith in y)
    go (Err harm) h q = absurd (let z : ◌≡◌ {A = ℕ} 0 1 = cc in let y : ⊥ = omega arith in y)
