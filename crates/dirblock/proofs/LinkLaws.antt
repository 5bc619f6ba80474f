-- The laws of `specs/Link.antt`: what a record cut down or lengthened has, and that what is written fits. Assumes nothing.
use Rattle.std.specs.Prelude.{Some, None, Ok, Err}
use mathlib.Core.Path.{◌≡◌, refl, sym, ap, ◌∙◌}
use mathlib.Core.List.{List}
use mathlib.Core.Bool.{true}
use mathlib.Core.Logic.{◌⊎◌, inl, inr}
use Prim.Native.Nat.{ℕ, ◌+◌, ◌-◌, ◌≤◌, ◌<◌}
use native.Mathlib.Nat.{sub-zero}
use native.Mathlib.Omega.{arith}
use borrow.Author.Tests.{eq-eqb, ne_eqb}
use lib.ListN.{length}
use Rattle.field.specs.declared.Order.{Order}
use Rattle.field.specs.Field.{part, put}
use Rattle.field.proofs.Laws.{length-part, part-put}
use Rattle.dirblock.specs.declared.Entry.{Entry}
use Rattle.dirblock.specs.declared.Rec.TheVariants.{Used, End, Bad}
use Rattle.dirblock.specs.declared.Spot.{Spot}
use Rattle.dirblock.specs.declared.Linked.{Linked}
use Rattle.dirblock.specs.declared.Linked.TheVariants as Linked
use Rattle.dirblock.specs.declared.Unlinked.{Unlinked}
use Rattle.dirblock.specs.declared.Unlinked.TheVariants as Unlinked
use Rattle.dirblock.specs.Record.{smallest_read, smallest_new, entry_at, name_at, rec_at, slack, shrunk, absorb}
use Rattle.dirblock.specs.Search.{named, find_in, room_in}
use Rattle.dirblock.specs.Write.{put_rec, Fits}
use Rattle.dirblock.specs.Link.{link_at, link_in, unlink_later, unlink_first, unlink_at, unlink_in, Behind}
use Rattle.dirblock.proofs.RecordLaws.{held, smallest-low, new-low}
use Rattle.dirblock.proofs.FoundLaws.{Prior, FoundAt, find-found}
use Rattle.refusal.specs.Refusal.{damage}

pub shrunk-is : (e : Entry) (n : ℕ) → n ≡ smallest_read e.namelen → record { inr = e.inr; reclen = n; kind = e.kind; namelen = e.namelen } ≡ shrunk e
unfolding shrunk
shrunk-is e n q = rw q

pub shrunk-long : (e old : Entry) → old ≡ shrunk e → old.reclen ≡ smallest_read e.namelen
unfolding shrunk
shrunk-long e old q = rw q

-- a name is read by its length alone
pub name-shrunk : (block : List ℕ) (pos : ℕ) (e : Entry) → name_at block pos (shrunk e) ≡ name_at block pos e
unfolding name_at shrunk
name-shrunk block pos e = refl

pub name-absorb : (block : List ℕ) (pos n : ℕ) (e : Entry) → name_at block pos (absorb n e) ≡ name_at block pos e
unfolding name_at absorb
name-absorb block pos n e = refl

module _ (o : Order) (block : List ℕ) (pos : ℕ) (e : Entry) (h : rec_at o block pos ≡ Used e) where
  pub shrunk-fits : (old : Entry) → old ≡ shrunk e → Fits (length block) pos old
  unfolding shrunk
  shrunk-fits old q =
      let d = held o block pos e h in
      rw q (record { name = smallest-low e.namelen; inside = omega (arith, d.least, d.inside) })

  pub split-inside : pos + smallest_read e.namelen ≤ length block
  split-inside = let d = held o block pos e h in omega (arith, d.least, d.inside)

  pub new-fits : (n long rest ino kind : ℕ) (name : List ℕ) → n ≡ length block → long ≡ smallest_read e.namelen → rest ≡ slack e
      → smallest_new (length name) ≤ slack e
      → Fits n (pos + long) (record { inr = ino; reclen = rest; kind = kind; namelen = length name })
  unfolding slack
  new-fits n long rest ino kind name qn ql qr w =
      let d = held o block pos e h in
      record { name = omega (arith, new-low (length name)); inside = omega (arith, d.least, d.inside) }

-- ---- linking, as the code does it

module _ (o : Order) (block : List ℕ) (ino kind : ℕ) (name : List ℕ) where
  pub link-told : (pos : ℕ) (e old : Entry) (rest : ℕ) (mid out : List ℕ) → old ≡ shrunk e → rest ≡ slack e
      → mid ≡ put_rec o pos old (name_at block pos old) block
      → out ≡ put_rec o (pos + old.reclen) (record { inr = ino; reclen = rest; kind = kind; namelen = length name }) name mid
      → out ≡ link_at o block pos e ino kind name
  unfolding link_at shrunk name_at
  link-told pos e old rest mid out qo qr qm q = rw (q, qm, qr, qo)

  pub link-room : (pos : ℕ) (e : Entry) (out : List ℕ) → room_in o block (length name) ≡ Ok (Some (pos, e)) → out ≡ link_at o block pos e ino kind name
      → (out, Ok Linked.Done) ≡ link_in o block ino kind name
  unfolding link_in
  link-room pos e out h q = rw (h, q)

  pub link-full : room_in o block (length name) ≡ Ok None → (block, Ok Linked.Full) ≡ link_in o block ino kind name
  unfolding link_in
  link-full h = rw h

  pub link-bad : room_in o block (length name) ≡ Err damage → (block, Err damage) ≡ link_in o block ino kind name
  unfolding link_in
  link-bad h = rw h

-- ---- unlinking a later record

module _ (o : Order) (block : List ℕ) (prev : ℕ) (e p : Entry) (q : p ≡ entry_at o prev block) (b : Behind block prev (entry_at o prev block) e) where
  pub later-sum : length block ≡ 512 → p.reclen + e.reclen < 65536
  later-sum l = rw q (omega (arith, b.ends))

  pub later-fits : (n : ℕ) (r : Entry) → n ≡ length block → r ≡ absorb e.reclen p → Fits n prev r
  unfolding absorb
  later-fits n r l a = rw (a, q, l) (record { name = omega (arith, b.name); inside = omega (arith, b.ends) })

pub later_told : (o : Order) (block : List ℕ) (prev : ℕ) (e p r : Entry) (out : List ℕ) → p ≡ entry_at o prev block → r ≡ absorb e.reclen p
    → out ≡ put_rec o prev r (name_at block prev r) block → (out, Ok (Unlinked.Done e.inr)) ≡ unlink_later o block prev e
unfolding unlink_later absorb name_at
later_told o block prev e p r out q a d = rw (d, a, q)

-- ---- unlinking the first

-- the name that was copied out is the one that stands in the block
pub copied_name : (n from : ℕ) (block old buf : List ℕ) → from + 8 + n ≤ length block → n ≤ length old → buf ≡ put 0 (part n (from + 8) block) old
    → part (n - 0) 0 buf ≡ part n (from + 8) block
copied_name n from block old buf h l q =
    let k = length-part n (from + 8) block h in
    ap (λ (m : ℕ). part m 0 buf) (sub-zero n)
    ∙ ap (part n 0) q
    ∙ ap (λ (m : ℕ). part m 0 (put 0 (part n (from + 8) block) old)) (sym k)
    ∙ part-put 0 (part n (from + 8) block) old (omega arith)

module _ (o : Order) (block : List ℕ) (e next : Entry) (h : rec_at o block e.reclen ≡ Used next) where
  pub first-sum : length block ≡ 512 → next.reclen + e.reclen < 65536
  first-sum l = let d = held o block e.reclen next h in omega (arith, d.inside)

  pub first_fits : (n : ℕ) (r : Entry) → n ≡ length block → r ≡ absorb e.reclen next → Fits n 0 r × (e.reclen + 8 + r.namelen ≤ n)
  unfolding absorb
  first_fits n r l a =
      let d = held o block e.reclen next h in
      let s = smallest-low next.namelen in
      rw (a, l) (record { name = omega (arith, d.least); inside = omega (arith, d.inside) }, omega (arith, d.least, d.inside))

  pub first-told : (r : Entry) (out : List ℕ) → r ≡ absorb e.reclen next → out ≡ put_rec o 0 r (name_at block e.reclen r) block
      → (out, Ok (Unlinked.Done e.inr)) ≡ unlink_first o block e
  unfolding unlink_first absorb name_at
  first-told r out a d = rw (h, d, a)

module _ (o : Order) (block : List ℕ) (e : Entry) where
  pub first_alone : rec_at o block e.reclen ≡ End → (block, Ok (Unlinked.Alone e.inr)) ≡ unlink_first o block e
  unfolding unlink_first
  first_alone h = rw h

  pub first-bad : rec_at o block e.reclen ≡ Bad → (block, Err damage) ≡ unlink_first o block e
  unfolding unlink_first
  first-bad h = rw h

-- ---- unlinking by name

module _ (o : Order) (block name : List ℕ) where
  module _ (s : Spot) (h : find_in o block name true ≡ Ok (Some s)) where
    pub first-there : s.pos ≡ 0 → rec_at o block 0 ≡ Used s.entry
    first-there z = ap (rec_at o block) (sym z) ∙ (find-found o block name true s h).there

    pub later-behind : (s.pos ≡ 0 → ⊥) → Behind block s.prev (entry_at o s.prev block) s.entry
    later-behind z = go f.before
      where
        f : FoundAt (named block name true) o block 0 0 s
        f = find-found o block name true s h

        go : ((s.pos ≡ 0) × (s.prev ≡ 0)) ⊎ Prior o block 0 s.prev s.pos → Behind block s.prev (entry_at o s.prev block) s.entry
        go (inl (a, b)) = absurd (z a)
        go (inr r) =
            let d = held o block s.prev r.entry r.there in
            let t = held o block s.pos s.entry f.there in
            rw (← d.same) (record { name = omega (arith, d.least, smallest-low r.entry.namelen); ends = omega (arith, r.next, t.inside) })

    pub unlink-first-told : s.pos ≡ 0 → unlink_in o block name ≡ unlink_first o block s.entry
    unfolding unlink_in unlink_at
    unlink-first-told z = rw (h, eq-eqb s.pos 0 z)

    pub unlink-later-told : (s.pos ≡ 0 → ⊥) → unlink_in o block name ≡ unlink_later o block s.prev s.entry
    unfolding unlink_in unlink_at
    unlink-later-told z = rw (h, ne_eqb s.pos 0 z)

  pub unlink-absent : find_in o block name true ≡ Ok None → (block, Ok Unlinked.Absent) ≡ unlink_in o block name
  unfolding unlink_in
  unlink-absent h = rw h

  pub unlink-bad : find_in o block name true ≡ Err damage → (block, Err damage) ≡ unlink_in o block name
  unfolding unlink_in
  unlink-bad h = rw h
