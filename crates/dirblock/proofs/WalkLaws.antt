-- The laws of `specs/Walk.antt`: the walk ends, and goes on record by record. Assumes nothing.
use mathlib.Core.Path.{◌≡◌, refl, ap}
use mathlib.Core.List.{List}
use Prim.Native.Nat.{ℕ, zero, suc, ◌+◌, ◌-◌, ◌≤◌, ◌<◌}
use native.Mathlib.Omega.{arith}
use lib.ListN.{length}
use Rattle.field.specs.declared.Order.{Order}
use Rattle.dirblock.specs.declared.Entry.{Entry}
use Rattle.dirblock.specs.declared.Rec.{Rec}
use Rattle.dirblock.specs.declared.Rec.TheVariants.{Used, Unused, End, Bad}
use Rattle.dirblock.specs.Record.{rec_at}
use Rattle.dirblock.specs.Walk.{ended, damaged, halt, ahead, onward, walk_for, walk_from}
use Rattle.dirblock.proofs.RecordLaws.{held, never-unused, smallest-low}

-- a record that is used is at least 8 bytes long and ends in the block
pub record Sized (block : List ℕ) (pos : ℕ) (e : Entry) : Type 0 where
  pub long : 8 ≤ e.reclen
  pub inside : pos + e.reclen ≤ length block

module _ (o : Order) (block : List ℕ) where
  pub sized : (pos : ℕ) (e : Entry) → rec_at o block pos ≡ Used e → Sized block pos e
  sized pos e h =
      let d = held o block pos e h in
      record { long = omega (arith, d.least, smallest-low e.namelen); inside = d.inside }

  pub name-inside : (pos : ℕ) (e : Entry) → rec_at o block pos ≡ Used e → pos + 8 + e.namelen ≤ length block
  name-inside pos e h = let d = held o block pos e h in omega (arith, d.least, d.inside, smallest-low e.namelen)

  -- the turns given are enough: more make no difference
  pub enough : (n m pos : ℕ) → length block - pos < n → length block - pos < m → walk_for o block n pos ≡ walk_for o block m pos
  unfolding walk_for
  enough zero m pos l r = absurd (let z : ⊥ = omega arith in z)
  enough (suc n) zero pos l r = absurd (let z : ⊥ = omega arith in z)
  enough (suc n) (suc m) pos l r = go (rec_at o block pos) refl (enough n m)
    where
      go : (k : Rec) → rec_at o block pos ≡ k
          → ((q : ℕ) → length block - q < n → length block - q < m → walk_for o block n q ≡ walk_for o block m q)
          → onward pos k (walk_for o block n) ≡ onward pos k (walk_for o block m)
      go (Used e) h f =
          let s = sized pos e h in
          ap (ahead (record { pos = pos; entry = e })) (f (pos + e.reclen) (omega arith) (omega arith))
      go (Unused e) h f = absurd (never-unused o block pos e h)
      go End h f = refl
      go Bad h f = refl

  -- the walk goes on record by record, and stops at the end or at damage
  pub walk-used : (pos : ℕ) (e : Entry) → rec_at o block pos ≡ Used e → walk_from o block pos ≡ ahead (record { pos = pos; entry = e }) (walk_from o block (pos + e.reclen))
  unfolding walk_from walk_for
  walk-used pos e h =
      let s = sized pos e h in
      rw h (ap (ahead (record { pos = pos; entry = e })) (enough (length block) (suc (length block)) (pos + e.reclen) (omega arith) (omega arith)))

  pub walk_end : (pos : ℕ) → rec_at o block pos ≡ End → walk_from o block pos ≡ halt (ended pos)
  unfolding walk_from walk_for
  walk_end pos h = rw h

  pub walk-bad : (pos : ℕ) → rec_at o block pos ≡ Bad → walk_from o block pos ≡ halt (damaged pos)
  unfolding walk_from walk_for
  walk-bad pos h = rw h
