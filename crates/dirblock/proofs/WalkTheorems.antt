-- The walk of any block ends, by its rule and inside the block; its records lie one behind the other; and a new directory shows its two. Assumes nothing.
use mathlib.Core.Path.{◌≡◌, refl, ap, ◌∙◌}
use mathlib.Core.List.{List, [], ◌∷◌, ◌++◌}
use Prim.Native.Nat.{ℕ, zero, suc, ◌+◌, ◌-◌, ◌*◌, ◌^◌, ◌≤◌, ◌<◌}
use native.Mathlib.Omega.{arith}
use lib.ListN.{length}
use lib.Dec.{lit<}
use Rattle.field.specs.declared.Order.{Order}
use Rattle.field.specs.Field.{zeros}
use Rattle.field.proofs.Laws.{length-zeros}
use Rattle.dirblock.specs.declared.Rec.{Rec}
use Rattle.dirblock.specs.declared.Rec.TheVariants.{Used, Unused, End, Bad}
use Rattle.dirblock.specs.Record.{smallest_read, kind_known, rec_at, entry_at}
use Rattle.dirblock.specs.Walk.{Stop, ended, damaged, onward, walk_for, walk_from}
use Rattle.dirblock.specs.Write.{put_rec, dir_entry, newdir_block}
use Rattle.dirblock.specs.Shown.{Shown, shown_all, shows, whole, health, stop_place, Tiles}
use Rattle.dirblock.proofs.RecordLaws.{never-unused, judged-tail, rec_judged}
use Rattle.dirblock.proofs.WalkLaws.{sized, walk_end}
use Rattle.dirblock.proofs.FoundLaws.{here}
use Rattle.dirblock.proofs.WriteLaws.{length_rec}
use Rattle.dirblock.proofs.KeptLaws.{item}
use Rattle.dirblock.proofs.Theorems.{Grown, grown, grown-shows, grown-health}

-- what stands where a walk stopped
abbrev pub Stands : Order → List ℕ → Stop → Type 0
Stands o block (ended pos) = rec_at o block pos ≡ End
Stands o block (damaged pos) = rec_at o block pos ≡ Bad

module _ (o : Order) (block : List ℕ) where
  tiles-for : (m pos : ℕ) → Tiles pos (walk_for o block m pos).records (stop_place (walk_for o block m pos).stopped)
  unfolding walk_for
  tiles-for zero pos = refl
  tiles-for (suc m) pos = go (rec_at o block pos) refl (tiles-for m)
    where
      go : (r : Rec) → rec_at o block pos ≡ r → ((q : ℕ) → Tiles q (walk_for o block m q).records (stop_place (walk_for o block m q).stopped))
          → Tiles pos (onward pos r (walk_for o block m)).records (stop_place (onward pos r (walk_for o block m)).stopped)
      go (Used e) h f = (refl, f (pos + e.reclen))
      go (Unused e) h f = absurd (never-unused o block pos e h)
      go End h f = refl
      go Bad h f = refl

  -- the records tile the block up to where the walk stopped
  pub tiled : Tiles 0 (walk_from o block 0).records (stop_place (walk_from o block 0).stopped)
  unfolding walk_from
  tiled = tiles-for (suc (length block)) 0

  stands-for : (m pos : ℕ) → length block - pos < m → Stands o block (walk_for o block m pos).stopped
  unfolding walk_for
  stands-for zero pos l = absurd (let z : ⊥ = omega arith in z)
  stands-for (suc m) pos l = go (rec_at o block pos) refl (stands-for m)
    where
      go : (r : Rec) → rec_at o block pos ≡ r → ((q : ℕ) → length block - q < m → Stands o block (walk_for o block m q).stopped) → Stands o block (onward pos r (walk_for o block m)).stopped
      go (Used e) h f = let s = sized o block pos e h in f (pos + e.reclen) (omega (arith, s.long, s.inside))
      go (Unused e) h f = absurd (never-unused o block pos e h)
      go End h f = h
      go Bad h f = h

  -- the walk of any block ends, and by its rule: at an end or at damage
  pub walk-stops : (pos : ℕ) → Stands o block (walk_from o block pos).stopped
  unfolding walk_from
  walk-stops pos = stands-for (suc (length block)) pos (omega arith)

  inside-for : (m pos : ℕ) → pos ≤ length block → (stop_place (walk_for o block m pos).stopped ≤ length block) × (8 * length (walk_for o block m pos).records + pos ≤ stop_place (walk_for o block m pos).stopped)
  unfolding walk_for
  inside-for zero pos l = (l, omega arith)
  inside-for (suc m) pos l = go (rec_at o block pos) refl (inside-for m)
    where
      go : (r : Rec) → rec_at o block pos ≡ r
          → ((q : ℕ) → q ≤ length block → (stop_place (walk_for o block m q).stopped ≤ length block) × (8 * length (walk_for o block m q).records + q ≤ stop_place (walk_for o block m q).stopped))
          → (stop_place (onward pos r (walk_for o block m)).stopped ≤ length block) × (8 * length (onward pos r (walk_for o block m)).records + pos ≤ stop_place (onward pos r (walk_for o block m)).stopped)
      go (Used e) h f =
          let s = sized o block pos e h in
          let g = f (pos + e.reclen) s.inside in
          (g.0, omega (arith, g.1, s.long))
      go (Unused e) h f = absurd (never-unused o block pos e h)
      go End h f = (l, omega arith)
      go Bad h f = (l, omega arith)

  -- it stops inside the block, after at most one record for each 8 bytes
  pub walk_inside : (stop_place (walk_from o block 0).stopped ≤ length block) × (8 * length (walk_from o block 0).records ≤ stop_place (walk_from o block 0).stopped)
  unfolding walk_from
  walk_inside = let g = inside-for (suc (length block)) 0 (omega arith) in (g.0, omega (arith, g.1))

-- ---- a new directory

module _ (o : Order) (ino parent : ℕ) (a : ino ≡ 0 → ⊥) (b : parent ≡ 0 → ⊥) (c : ino < 256 ^ 4) (d : parent < 256 ^ 4) where
  self : List ℕ
  self = put_rec o 0 (dir_entry ino 264 1) (46 ∷ []) (zeros 512)

  self-long : length self ≡ 512
  unfolding self
  self-long = length_rec o 0 (dir_entry ino 264 1) (46 ∷ []) (zeros 512) ∙ length-zeros 512

  self-grown : Grown o (zeros 512) self [] 0 (dir_entry ino 264 1) (46 ∷ [])
  unfolding self smallest_read kind_known
  self-grown =
      let z = length-zeros 512 in
      grown o (zeros 512) [] 0 (dir_entry ino 264 1) (46 ∷ []) here
      (record { narrow = record { inr = c; reclen = lit< tt; kind = lit< tt; namelen = lit< tt }; least = omega arith; inside = omega arith; inode = a; kind = refl })
      refl

  both-grown : Grown o self (newdir_block o ino parent) (item 0 (dir_entry ino 264 1) ∷ []) 264 (dir_entry parent 248 2) (46 ∷ 46 ∷ [])
  unfolding newdir_block self smallest_read kind_known
  both-grown =
      let z = self-long in
      grown o self (item 0 (dir_entry ino 264 1) ∷ []) 264 (dir_entry parent 248 2) (46 ∷ 46 ∷ []) self-grown.leads
      (record { narrow = record { inr = d; reclen = lit< tt; kind = lit< tt; namelen = lit< tt }; least = omega arith; inside = omega arith; inode = b; kind = refl })
      refl

  self-ends : rec_at o self 512 ≡ End
  self-ends = rec_judged o self 512 0 (entry_at o 512 self) (omega (arith, self-long)) refl ∙ judged-tail 0 (entry_at o 512 self) (omega arith)

  -- "newdir writes "." .. and "..""
  pub newdir-shows : shows o (newdir_block o ino parent) ≡ record { inr = ino; kind = 4; name = 46 ∷ [] } ∷ record { inr = parent; kind = 4; name = 46 ∷ 46 ∷ [] } ∷ []
  unfolding shown_all
  newdir-shows =
      grown-shows o self (newdir_block o ino parent) (item 0 (dir_entry ino 264 1) ∷ []) 264 (dir_entry parent 248 2) (46 ∷ 46 ∷ []) both-grown
      ∙ rw (walk_end o self 512 self-ends) (ap (λ (x : List Shown). x ++ (record { inr = parent; kind = 4; name = 46 ∷ 46 ∷ [] } ∷ [])) self-grown.seen)

  pub newdir-whole : health o (newdir_block o ino parent) ≡ whole
  newdir-whole =
      grown-health o self (newdir_block o ino parent) (item 0 (dir_entry ino 264 1) ∷ []) 264 (dir_entry parent 248 2) (46 ∷ 46 ∷ []) both-grown
      ∙ rw (walk_end o self 512 self-ends)
