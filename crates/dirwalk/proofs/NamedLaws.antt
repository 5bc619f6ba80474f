-- The two searches of a block by name, with and without whiteouts, compared: they find the same record unless a whiteout of that name comes first. Assumes nothing.
use Rattle.std.specs.Prelude.{Option, Some, Result, Ok, Err}
use mathlib.Core.Path.{◌≡◌, refl, sym, ap, ◌∙◌}
use mathlib.Core.Bool.{Bool, true, false, ◌&&◌}
use mathlib.Core.List.{List}
use mathlib.Core.Logic.{◌⊎◌, inl, inr}
use Prim.Native.Nat.{ℕ, zero, suc, ◌+◌, ◌-◌, ◌<◌}
use native.Mathlib.Omega.{arith}
use lib.ListN.{length}
use lib.Dec.{eqb}
use borrow.Author.Tests.{eqb-true, eqb-false}
use Rattle.field.specs.declared.Order.{Order}
use Rattle.dirblock.specs.declared.Entry.{Entry}
use Rattle.dirblock.specs.declared.Rec.{Rec}
use Rattle.dirblock.specs.declared.Rec.TheVariants as Rec
use Rattle.dirblock.specs.declared.Spot.{Spot}
use Rattle.dirblock.specs.Record.{rec_at, name_at, listed, findable}
use Rattle.dirblock.specs.Walk.{Item}
use Rattle.dirblock.specs.Search.{search_from, same_name, named, find_in}
use Rattle.dirblock.specs.Link.{unlink_in}
use Rattle.dirblock.proofs.RecordLaws.{never-unused}
use Rattle.dirblock.proofs.WalkLaws.{sized}
use Rattle.dirblock.proofs.SearchLaws.{search-hit, search-pass, search-end, search-bad, find_start}
use Rattle.dirfile.specs.Seek.{Sought, here, hurt}
use Rattle.dirwalk.specs.declared.Hit.{Hit}
use Rattle.dirwalk.specs.Walk.{seen_in}
use Rattle.dirwalk.proofs.UnlinkLaws.{answer-next, answer-alone, answer-hurt, answer-later}
use Rattle.refusal.specs.Refusal.{damage}
use Rattle.refusal.specs.declared.Damage.{Damage}

module _ (o : Order) (block name : List ℕ) where
  -- both tests answer alike, unless the record is a whiteout of that name
  named-alike : (i : Item) → (named block name false i ≡ named block name true i) ⊎ ((named block name true i ≡ true) × (named block name false i ≡ false) × (listed i.entry ≡ false))
  unfolding named findable
  named-alike i = go (listed i.entry) refl (same_name (name_at block i.pos i.entry) name)
    where
      go : (l : Bool) → listed i.entry ≡ l → (s : Bool) → (l && s ≡ true && s) ⊎ ((true && s ≡ true) × (l && s ≡ false) × (listed i.entry ≡ false))
      go true h s = inl refl
      go false h true = inr (refl, refl, h)
      go false h false = inl refl

  -- the search with whiteouts stops at one, and the other search, whose answer is x, goes on behind it
  pub record Earlier (x y : Result (Option Spot) Damage) : Type 0 where
    pub spot : Spot
    pub found : y ≡ Ok (Some spot)
    pub white : listed spot.entry ≡ false
    pub next : rec_at o block (spot.pos + spot.entry.reclen) ≡ Rec.Bad → x ≡ Err damage

  abbrev Compared : ℕ → ℕ → Type 0
  Compared prev pos =
      (search_from (named block name false) o block prev pos ≡ search_from (named block name true) o block prev pos)
      ⊎ Earlier (search_from (named block name false) o block prev pos) (search_from (named block name true) o block prev pos)

  compared-used : (prev pos : ℕ) (e : Entry) → rec_at o block pos ≡ Rec.Used e → Compared pos (pos + e.reclen) → Compared prev pos
  compared-used prev pos e h rest = go (named-alike i)
    where
      i : Item
      i = record { pos = pos; entry = e }

      alike : (t : Bool) → named block name true i ≡ t → named block name false i ≡ t → Compared prev pos
      alike true a b = inl (search-hit (named block name false) o block prev pos e h b ∙ sym (search-hit (named block name true) o block prev pos e h a))
      alike false a b = rw (search-pass (named block name false) o block prev pos e h b, search-pass (named block name true) o block prev pos e h a) rest

      go : (named block name false i ≡ named block name true i) ⊎ ((named block name true i ≡ true) × (named block name false i ≡ false) × (listed e ≡ false)) → Compared prev pos
      go (inl same) = alike (named block name true i) refl same
      go (inr (a, b, w)) =
          inr (record {
            spot = record { pos = pos; prev = prev; entry = e };
            found = search-hit (named block name true) o block prev pos e h a;
            white = w;
            next = λ z. search-pass (named block name false) o block prev pos e h b ∙ search-bad (named block name false) o block pos (pos + e.reclen) z;
          })

  compared : (m prev pos : ℕ) → length block - pos < m → Compared prev pos
  compared zero prev pos l = absurd (let z : ⊥ = omega arith in z)
  compared (suc m) prev pos l = go (rec_at o block pos) refl (compared m pos)
    where
      go : (r : Rec) → rec_at o block pos ≡ r → ((q : ℕ) → length block - q < m → Compared pos q) → Compared prev pos
      go (Rec.Used e) h f =
          let s = sized o block pos e h in
          compared-used prev pos e h (f (pos + e.reclen) (omega (arith, s.long, s.inside)))
      go (Rec.Unused e) h f = absurd (never-unused o block pos e h)
      go Rec.End h f = inl (search-end (named block name false) o block prev pos h ∙ sym (search-end (named block name true) o block prev pos h))
      go Rec.Bad h f = inl (search-bad (named block name false) o block prev pos h ∙ sym (search-bad (named block name true) o block prev pos h))

  pub find-compared : (find_in o block name false ≡ find_in o block name true) ⊎ Earlier (find_in o block name false) (find_in o block name true)
  find-compared = rw (← find_start o block name false, ← find_start o block name true) (compared (suc (length block)) 0 0 (omega arith))

-- ---- what unlinking answers where it finds a record

-- a record of that inode is found
pub record Hits (i : ℕ) (x : Sought Hit) : Type 0 where
  pub hit : Hit
  pub seen : x ≡ here hit
  pub inode : hit.inr ≡ i

module _ (o : Order) (block name : List ℕ) (k : ℕ) (s : Spot) (h : find_in o block name true ≡ Ok (Some s)) where
  -- it is found, unless it is the first of its block and damage stands behind it
  abbrev pub Told : Type 0
  Told = Hits s.entry.inr (seen_in k (unlink_in o block name).1) ⊎ ((seen_in k (unlink_in o block name).1 ≡ hurt) × (s.pos ≡ 0) × (rec_at o block s.entry.reclen ≡ Rec.Bad))

  told-first : s.pos ≡ 0 → (r : Rec) → rec_at o block s.entry.reclen ≡ r → Told
  told-first z (Rec.Used e) q = inl (record { hit = record { block = k; inr = s.entry.inr; alone = false }; seen = ap (seen_in k) (sym (answer-next o block name s h z e q)); inode = refl })
  told-first z (Rec.Unused e) q = absurd (never-unused o block s.entry.reclen e q)
  told-first z Rec.End q = inl (record { hit = record { block = k; inr = s.entry.inr; alone = true }; seen = ap (seen_in k) (sym (answer-alone o block name s h z q)); inode = refl })
  told-first z Rec.Bad q = inr (ap (seen_in k) (sym (answer-hurt o block name s h z q)), z, q)

  pub unlink-told : Told
  unlink-told = go (eqb s.pos 0) refl
    where
      go : (t : Bool) → eqb s.pos 0 ≡ t → Told
      go true e = told-first (eqb-true s.pos 0 e) (rec_at o block s.entry.reclen) refl
      go false e = inl (record { hit = record { block = k; inr = s.entry.inr; alone = false }; seen = ap (seen_in k) (sym (answer-later o block name s h (eqb-false s.pos 0 e))); inode = refl })
