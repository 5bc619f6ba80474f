-- What linking and unlinking leave of a block, in the words of what its walk shows: every other record, in order, with its name, inode and type. Assumes nothing.
use mathlib.Core.Path.{◌≡◌, refl, sym, ap, ap₂, subst, ◌∙◌}
use mathlib.Core.Bool.{true}
use mathlib.Core.List.{List, [], ◌∷◌, ◌++◌, append_assoc}
use mathlib.Core.Logic.{inr}
use Prim.Native.Nat.{ℕ, ◌+◌, ◌^◌, ◌≤◌, ◌<◌}
use native.Mathlib.Nat.{zero-add}
use native.Mathlib.Omega.{arith}
use lib.ListN.{length}
use Rattle.field.specs.declared.Order.{Order}
use Rattle.field.specs.Field.{Bytes, Kept}
use Rattle.field.proofs.Laws.{length-part}
use Rattle.dirblock.specs.declared.Entry.{Entry}
use Rattle.dirblock.specs.declared.Rec.TheVariants.{Used, End}
use Rattle.dirblock.specs.Record.{smallest_read, kind_known, name_at, rec_at, slack, shrunk, absorb}
use Rattle.dirblock.specs.Walk.{Item, Walk, walk_from}
use Rattle.dirblock.specs.Write.{put_rec}
use Rattle.dirblock.specs.Link.{new_entry, link_at}
use Rattle.dirblock.specs.Shown.{Shown, shown_all, shows, whole, health_of, health}
use Rattle.dirblock.proofs.RecordLaws.{held, smallest-low, new_enough}
use Rattle.dirblock.proofs.WalkLaws.{walk_end}
use Rattle.dirblock.proofs.FoundLaws.{Leads, here, over, RoomAt}
use Rattle.dirblock.proofs.WriteLaws.{length_rec}
use Rattle.dirblock.proofs.KeptLaws.{item, leads_on, leads-walk, shown_append, leads-kept, shown-before, walk_kept, shown-kept}
use Rattle.dirblock.proofs.ReadBackLaws.{Good, narrow-held, kept-rec, rec-written, name-written}

-- ---- one record written where the walk leads

abbrev pub shown_as : Entry → List ℕ → Shown
shown_as e name = record { inr = e.inr; kind = e.kind; name = name }

-- the walk of `now` goes over xs, then e, then on as that of `was` does behind e
pub record Grown (o : Order) (was now : List ℕ) (xs : List Item) (at : ℕ) (e : Entry) (name : List ℕ) : Type 0 where
  pub leads : Leads o now 0 (xs ++ (item at e ∷ [])) (at + e.reclen)
  pub seen : shown_all now (xs ++ (item at e ∷ [])) ≡ shown_all was xs ++ (shown_as e name ∷ [])
  pub rest : walk_from o now (at + e.reclen) ≡ walk_from o was (at + e.reclen)
  pub shown_rest : shown_all now (walk_from o was (at + e.reclen)).records ≡ shown_all was (walk_from o was (at + e.reclen)).records

pub grown : (o : Order) (block : List ℕ) (xs : List Item) (at : ℕ) (e : Entry) (name : List ℕ)
    → Leads o block 0 xs at → Good (length block) at e → length name ≡ e.namelen
    → Grown o block (put_rec o at e name block) xs at e name
unfolding shown_all
grown o block xs at e name leads g l =
    let k : Kept at e.reclen block (put_rec o at e name block) = kept-rec o at e block name l g in
    record {
      leads = leads_on o (put_rec o at e name block) e (leads-kept o k leads (omega arith)) (rec-written o at e block name l g);
      seen =
          shown_append (put_rec o at e name block) xs (item at e ∷ [])
          ∙ ap₂ (λ (x : List Shown) (y : List ℕ). x ++ (shown_as e y ∷ [])) (shown-before o k leads (omega arith)) (name-written o at e block name l g);
      rest = walk_kept o k (at + e.reclen) (omega arith);
      shown_rest = shown-kept o k (at + e.reclen) (omega arith);
    }

-- what a walk over xs and on from q shows
shows-over : (o : Order) (block : List ℕ) (xs : List Item) (q : ℕ) → Leads o block 0 xs q → shows o block ≡ shown_all block xs ++ shown_all block (walk_from o block q).records
unfolding shows
shows-over o block xs q leads = ap (λ (w : Walk). shown_all block w.records) (leads-walk o block leads) ∙ shown_append block xs (walk_from o block q).records

health-over : (o : Order) (block : List ℕ) (xs : List Item) (q : ℕ) → Leads o block 0 xs q → health o block ≡ health_of (walk_from o block q).stopped
unfolding health
health-over o block xs q leads = ap (λ (w : Walk). health_of w.stopped) (leads-walk o block leads)

module _ (o : Order) (was now : List ℕ) (xs : List Item) (at : ℕ) (e : Entry) (name : List ℕ) (g : Grown o was now xs at e name) where
  pub grown-shows : shows o now ≡ shown_all was xs ++ (shown_as e name ∷ shown_all was (walk_from o was (at + e.reclen)).records)
  grown-shows =
      shows-over o now (xs ++ (item at e ∷ [])) (at + e.reclen) g.leads
      ∙ ap₂ (λ (x y : List Shown). x ++ y) g.seen (ap (λ (w : Walk). shown_all now w.records) g.rest ∙ g.shown_rest)
      ∙ append_assoc (shown_all was xs) (shown_as e name ∷ []) (shown_all was (walk_from o was (at + e.reclen)).records)

  pub grown-health : health o now ≡ health_of (walk_from o was (at + e.reclen)).stopped
  grown-health =
      health-over o now (xs ++ (item at e ∷ [])) (at + e.reclen) g.leads ∙ ap (λ (w : Walk). health_of w.stopped) g.rest

-- what a walk shows that goes over xs to the record e at `at`
shows-at : (o : Order) (block : List ℕ) (xs : List Item) (at : ℕ) (e : Entry) → Leads o block 0 xs at → rec_at o block at ≡ Used e
    → shows o block ≡ shown_all block xs ++ (shown_as e (name_at block at e) ∷ shown_all block (walk_from o block (at + e.reclen)).records)
unfolding shown_all
shows-at o block xs at e leads h =
    shows-over o block (xs ++ (item at e ∷ [])) (at + e.reclen) (leads_on o block e leads h)
    ∙ ap (λ (x : List Shown). x ++ shown_all block (walk_from o block (at + e.reclen)).records) (shown_append block xs (item at e ∷ []))
    ∙ append_assoc (shown_all block xs) (shown_as e (name_at block at e) ∷ []) (shown_all block (walk_from o block (at + e.reclen)).records)

health-at : (o : Order) (block : List ℕ) (xs : List Item) (at : ℕ) (e : Entry) → Leads o block 0 xs at → rec_at o block at ≡ Used e
    → health o block ≡ health_of (walk_from o block (at + e.reclen)).stopped
health-at o block xs at e leads h = health-over o block (xs ++ (item at e ∷ [])) (at + e.reclen) (leads_on o block e leads h)

name-length : (o : Order) (block : List ℕ) (at : ℕ) (e : Entry) → rec_at o block at ≡ Used e → length (name_at block at e) ≡ e.namelen
unfolding name_at
name-length o block at e h =
    let d = held o block at e h in
    length-part e.namelen (at + 8) block (omega (arith, d.least, d.inside, smallest-low e.namelen))

pub shown_snoc : (block : List ℕ) (xs : List Item) (at : ℕ) (e : Entry) → shown_all block (xs ++ (item at e ∷ [])) ≡ shown_all block xs ++ (shown_as e (name_at block at e) ∷ [])
unfolding shown_all
shown_snoc block xs at e = shown_append block xs (item at e ∷ [])

first-leads : (o : Order) (block : List ℕ) (e : Entry) → rec_at o block 0 ≡ Used e → Leads o block 0 (item 0 e ∷ []) e.reclen
first-leads o block e h = subst (Leads o block 0 (item 0 e ∷ [])) (zero-add e.reclen) (over e h here)

-- a first record with the end behind it is all that is shown
pub first-shows : (o : Order) (block : List ℕ) (e : Entry) → rec_at o block 0 ≡ Used e → rec_at o block e.reclen ≡ End → shows o block ≡ shown_as e (name_at block 0 e) ∷ []
unfolding shown_all
first-shows o block e h g = shows-over o block (item 0 e ∷ []) e.reclen (first-leads o block e h) ∙ rw (walk_end o block e.reclen g)

pub first-whole : (o : Order) (block : List ℕ) (e : Entry) → rec_at o block 0 ≡ Used e → rec_at o block e.reclen ≡ End → health o block ≡ whole
first-whole o block e h g = health-over o block (item 0 e ∷ []) e.reclen (first-leads o block e h) ∙ rw (walk_end o block e.reclen g)

-- ---- unlinking

-- what stood before the record taken out, and what stood behind it, is shown as before
pub record Removed (o : Order) (was now : List ℕ) (before : List Shown) (gone : Shown) : Type 0 where
  pub after : List Shown
  pub had : shows o was ≡ before ++ (gone ∷ after)
  pub left : shows o now ≡ before ++ after
  pub same : health o now ≡ health o was

-- a record absorbed by the one before it
pub later-removed : (o : Order) (block : List ℕ) (xs : List Item) (prev : ℕ) (p e : Entry)
    → Bytes block → length block ≡ 512 → Leads o block 0 xs prev → rec_at o block prev ≡ Used p → rec_at o block (prev + p.reclen) ≡ Used e
    → Removed o block (put_rec o prev (absorb e.reclen p) (name_at block prev p) block) (shown_all block xs ++ (shown_as p (name_at block prev p) ∷ [])) (shown_as e (name_at block (prev + p.reclen) e))
unfolding absorb
later-removed o block xs prev p e b l leads hp he =
    let d = held o block prev p hp in
    let t = held o block (prev + p.reclen) e he in
    let w = narrow-held o block prev p b d in
    let at : Entry = absorb e.reclen p in
    let good : Good (length block) prev at =
    record { narrow = record { inr = w.inr; reclen = omega (arith, t.inside); kind = w.kind; namelen = w.namelen }; least = omega (arith, d.least); inside = omega (arith, t.inside); inode = d.inode; kind = d.kind } in
    let g = grown o block xs prev at (name_at block prev p) leads good (name-length o block prev p hp) in
    let end : prev + (p.reclen + e.reclen) ≡ prev + p.reclen + e.reclen = omega arith in
    record {
      after = shown_all block (walk_from o block (prev + p.reclen + e.reclen)).records;
      had =
          shows-at o block (xs ++ (item prev p ∷ [])) (prev + p.reclen) e (leads_on o block p leads hp) he
          ∙ ap (λ (x : List Shown). x ++ (shown_as e (name_at block (prev + p.reclen) e) ∷ shown_all block (walk_from o block (prev + p.reclen + e.reclen)).records)) (shown_snoc block xs prev p);
      left =
          grown-shows o block _ xs prev at (name_at block prev p) g
          ∙ ap (λ (q : ℕ). shown_all block xs ++ (shown_as p (name_at block prev p) ∷ shown_all block (walk_from o block q).records)) end
          ∙ sym (append_assoc (shown_all block xs) (shown_as p (name_at block prev p) ∷ []) (shown_all block (walk_from o block (prev + p.reclen + e.reclen)).records));
      same =
          grown-health o block _ xs prev at (name_at block prev p) g
          ∙ ap (λ (q : ℕ). health_of (walk_from o block q).stopped) end
          ∙ sym (health-at o block (xs ++ (item prev p ∷ [])) (prev + p.reclen) e (leads_on o block p leads hp) he);
    }

-- the first record, absorbed by the next, which then stands first
pub first-removed : (o : Order) (block : List ℕ) (e next : Entry)
    → Bytes block → length block ≡ 512 → rec_at o block 0 ≡ Used e → rec_at o block e.reclen ≡ Used next
    → Removed o block (put_rec o 0 (absorb e.reclen next) (name_at block e.reclen next) block) [] (shown_as e (name_at block 0 e))
unfolding absorb shown_all
first-removed o block e next b l he hn =
    let d = held o block e.reclen next hn in
    let w = narrow-held o block e.reclen next b d in
    let at : Entry = absorb e.reclen next in
    let good : Good (length block) 0 at =
    record { narrow = record { inr = w.inr; reclen = omega (arith, d.inside); kind = w.kind; namelen = w.namelen }; least = omega (arith, d.least); inside = omega (arith, d.inside); inode = d.inode; kind = d.kind } in
    let g = grown o block [] 0 at (name_at block e.reclen next) here good (name-length o block e.reclen next hn) in
    let one : 0 + e.reclen ≡ e.reclen = omega arith in
    let end : 0 + (next.reclen + e.reclen) ≡ e.reclen + next.reclen = omega arith in
    let over_first : Leads o block 0 (item 0 e ∷ []) e.reclen = first-leads o block e he in
    record {
      after = shown_as next (name_at block e.reclen next) ∷ shown_all block (walk_from o block (e.reclen + next.reclen)).records;
      had = shows-at o block (item 0 e ∷ []) e.reclen next over_first hn;
      left =
          grown-shows o block _ [] 0 at (name_at block e.reclen next) g
          ∙ ap (λ (q : ℕ). shown_as next (name_at block e.reclen next) ∷ shown_all block (walk_from o block q).records) end;
      same =
          grown-health o block _ [] 0 at (name_at block e.reclen next) g
          ∙ ap (λ (q : ℕ). health_of (walk_from o block q).stopped) end
          ∙ sym (health-at o block (item 0 e ∷ []) e.reclen next over_first hn);
    }

-- ---- linking

-- what can be linked: an inode, a known type, a name of at most 255 bytes
pub record Linkable (ino kind : ℕ) (name : List ℕ) : Type 0 where
  pub inode : ino ≡ 0 → ⊥
  pub fits : ino < 256 ^ 4
  pub known : kind_known kind ≡ true
  pub byte : kind < 256 ^ 1
  pub short : length name < 256 ^ 1

-- everything shown before is shown as before, and the new record is one more
pub record Added (o : Order) (was now : List ℕ) (new : Shown) : Type 0 where
  pub before : List Shown
  pub after : List Shown
  pub had : shows o was ≡ before ++ after
  pub left : shows o now ≡ before ++ (new ∷ after)
  pub same : health o now ≡ health o was

module _ (o : Order) (block : List ℕ) (ino kind : ℕ) (name : List ℕ) (pos : ℕ) (e : Entry)
    (b : Bytes block) (r : RoomAt o block (length name) pos e) (can : Linkable ino kind name) where
  old-good : Good (length block) pos (shrunk e)
  unfolding shrunk
  old-good =
      let d = held o block pos e r.there in
      let w = narrow-held o block pos e b d in
      record { narrow = record { inr = w.inr; reclen = omega (arith, w.reclen, d.least); kind = w.kind; namelen = w.namelen }; least = omega arith; inside = omega (arith, d.least, d.inside); inode = d.inode; kind = d.kind }

  mid : List ℕ
  mid = put_rec o pos (shrunk e) (name_at block pos e) block

  new : Entry
  new = new_entry e ino kind name

  new-good : Good (length mid) (pos + smallest_read e.namelen) new
  unfolding slack mid new
  new-good =
      let d = held o block pos e r.there in
      let w = narrow-held o block pos e b d in
      let k = length_rec o pos (shrunk e) (name_at block pos e) block in
      record {
        narrow = record { inr = can.fits; reclen = omega (arith, w.reclen); kind = can.byte; namelen = can.short };
        least = omega (arith, r.wide, new_enough (length name));
        inside = omega (arith, d.least, d.inside);
        inode = can.inode;
        kind = can.known;
      }

  mid-kept : Kept pos (smallest_read e.namelen) block mid
  unfolding shrunk mid
  mid-kept = kept-rec o pos (shrunk e) block (name_at block pos e) (name-length o block pos e r.there) old-good

  mid-grown : Grown o block mid r.passed pos (shrunk e) (name_at block pos e)
  unfolding shrunk mid
  mid-grown = grown o block r.passed pos (shrunk e) (name_at block pos e) r.leads old-good (name-length o block pos e r.there)

  now-grown : Grown o mid (link_at o block pos e ino kind name) (r.passed ++ (item pos (shrunk e) ∷ [])) (pos + smallest_read e.namelen) new name
  unfolding link_at shrunk mid new
  now-grown = grown o mid (r.passed ++ (item pos (shrunk e) ∷ [])) (pos + smallest_read e.namelen) new name mid-grown.leads new-good refl

  whole_length : pos + smallest_read e.namelen + slack e ≡ pos + e.reclen
  unfolding slack
  whole_length = let d = held o block pos e r.there in omega (arith, d.least)

  -- what stands behind is untouched
  far : pos + smallest_read e.namelen ≤ pos + smallest_read e.namelen + slack e
  far = omega arith

  pub link-added : Added o block (link_at o block pos e ino kind name) (record { inr = ino; kind = kind; name = name })
  unfolding shrunk new
  link-added =
      let q = pos + smallest_read e.namelen + slack e in
      record {
        before = shown_all block r.passed ++ (shown_as e (name_at block pos e) ∷ []);
        after = shown_all block (walk_from o block (pos + e.reclen)).records;
        had =
            shows-at o block r.passed pos e r.leads r.there
            ∙ sym (append_assoc (shown_all block r.passed) (shown_as e (name_at block pos e) ∷ []) (shown_all block (walk_from o block (pos + e.reclen)).records));
        left =
            grown-shows o mid (link_at o block pos e ino kind name) (r.passed ++ (item pos (shrunk e) ∷ [])) (pos + smallest_read e.namelen) new name now-grown
            ∙ ap₂ (λ (x y : List Shown). x ++ (record { inr = ino; kind = kind; name = name } ∷ y))
            mid-grown.seen
            (ap (λ (w : Walk). shown_all mid w.records) (walk_kept o mid-kept q far)
            ∙ shown-kept o mid-kept q far
            ∙ ap (λ (k : ℕ). shown_all block (walk_from o block k).records) whole_length);
        same =
            grown-health o mid (link_at o block pos e ino kind name) (r.passed ++ (item pos (shrunk e) ∷ [])) (pos + smallest_read e.namelen) new name now-grown
            ∙ ap (λ (w : Walk). health_of w.stopped) (walk_kept o mid-kept q far)
            ∙ ap (λ (k : ℕ). health_of (walk_from o block k).stopped) whole_length
            ∙ sym (health-at o block r.passed pos e r.leads r.there);
      }
