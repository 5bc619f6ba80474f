-- A record that was written is read back, and nothing outside it is touched. Assumes nothing.
use mathlib.Core.Path.{◌≡◌, sym, ap, subst, ◌∙◌}
use mathlib.Core.Bool.{true}
use mathlib.Core.List.{List}
use mathlib.Core.Logic.{inl, inr}
use Prim.Native.Nat.{ℕ, ◌+◌, ◌-◌, ◌^◌, ◌≤◌, ◌<◌}
use native.Mathlib.Omega.{arith}
use lib.ListN.{length}
use Rattle.field.specs.declared.Order.{Order}
use Rattle.field.specs.Field.{num, part, put, put_num, zeros, Bytes, Kept}
use Rattle.field.proofs.Laws.{length-put_num, length-zeros, num-bound, num-put_num, num-put_num-before, part-put, part-put-apart, kept_trans, kept_wider, kept-put, kept-put_num}
use Rattle.dirblock.specs.declared.Entry.{Entry}
use Rattle.dirblock.specs.declared.Rec.TheVariants.{Used}
use Rattle.dirblock.specs.Record.{smallest_read, kind_known, entry_at, name_at, rec_at}
use Rattle.dirblock.specs.Write.{put_header, put_rec}
use Rattle.dirblock.proofs.RecordLaws.{Held, smallest-low, judged-kind, rec_judged}
use Rattle.dirblock.proofs.WriteLaws.{length_header, length_rec}
use Rattle.dirblock.proofs.KeptLaws.{entry-kept}

-- each field fits its bytes
pub record Narrow (e : Entry) : Type 0 where
  pub inr : e.inr < 256 ^ 4
  pub reclen : e.reclen < 256 ^ 2
  pub kind : e.kind < 256 ^ 1
  pub namelen : e.namelen < 256 ^ 1

-- a record that the walk takes at pos of n bytes
pub record Good (n pos : ℕ) (e : Entry) : Type 0 where
  pub narrow : Narrow e
  pub least : smallest_read e.namelen ≤ e.reclen
  pub inside : pos + e.reclen ≤ n
  pub inode : e.inr ≡ 0 → ⊥
  pub kind : kind_known e.kind ≡ true

-- a record of a byte image is narrow
narrow-at : (o : Order) (block : List ℕ) (pos : ℕ) → Bytes block → pos + 8 ≤ length block → Narrow (entry_at o pos block)
unfolding entry_at
narrow-at o block pos b r =
    record {
      inr = num-bound o 4 pos block b (omega arith);
      reclen = num-bound o 2 (pos + 4) block b (omega arith);
      kind = num-bound o 1 (pos + 6) block b (omega arith);
      namelen = num-bound o 1 (pos + 7) block b (omega arith);
    }

pub narrow-held : (o : Order) (block : List ℕ) (pos : ℕ) (e : Entry) → Bytes block → Held o block pos e → Narrow e
narrow-held o block pos e b h =
    subst Narrow (sym h.same) (narrow-at o block pos b (omega (arith, h.least, h.inside, smallest-low e.namelen)))

module _ (o : Order) (pos : ℕ) (e : Entry) (block : List ℕ) where
  header_read : pos + 8 ≤ length block → Narrow e → entry_at o pos (put_header o pos e block) ≡ e
  unfolding entry_at put_header
  header_read r w =
      let b1 = put_num o 4 pos e.inr block in
      let b2 = put_num o 2 (pos + 4) e.reclen b1 in
      let b3 = put_num o 1 (pos + 6) e.kind b2 in
      let l1 : length b1 ≡ length block = length-put_num o 4 pos e.inr block in
      let l2 : length b2 ≡ length b1 = length-put_num o 2 (pos + 4) e.reclen b1 in
      let l3 : length b3 ≡ length b2 = length-put_num o 1 (pos + 6) e.kind b2 in
      let i : num o 4 pos (put_num o 1 (pos + 7) e.namelen b3) ≡ e.inr =
      num-put_num-before o 1 (pos + 7) e.namelen b3 o 4 pos (omega arith)
      ∙ num-put_num-before o 1 (pos + 6) e.kind b2 o 4 pos (omega arith)
      ∙ num-put_num-before o 2 (pos + 4) e.reclen b1 o 4 pos (omega arith)
      ∙ num-put_num o 4 pos e.inr block w.inr (omega arith) in
      let l : num o 2 (pos + 4) (put_num o 1 (pos + 7) e.namelen b3) ≡ e.reclen =
      num-put_num-before o 1 (pos + 7) e.namelen b3 o 2 (pos + 4) (omega arith)
      ∙ num-put_num-before o 1 (pos + 6) e.kind b2 o 2 (pos + 4) (omega arith)
      ∙ num-put_num o 2 (pos + 4) e.reclen b1 w.reclen (omega arith) in
      let t : num o 1 (pos + 6) (put_num o 1 (pos + 7) e.namelen b3) ≡ e.kind =
      num-put_num-before o 1 (pos + 7) e.namelen b3 o 1 (pos + 6) (omega arith)
      ∙ num-put_num o 1 (pos + 6) e.kind b2 w.kind (omega arith) in
      let n : num o 1 (pos + 7) (put_num o 1 (pos + 7) e.namelen b3) ≡ e.namelen = num-put_num o 1 (pos + 7) e.namelen b3 w.namelen (omega arith) in
      rw (i, l, t, n)

  -- name and zeros stand behind the header
  kept-header : (name : List ℕ) → length name ≡ e.namelen → 8 + e.namelen ≤ e.reclen → Kept (pos + 8) (e.reclen - 8) (put_header o pos e block) (put_rec o pos e name block)
  unfolding put_rec
  kept-header name l f =
      let z = length-zeros (e.reclen - (8 + e.namelen)) in
      kept_trans (kept_wider (pos + 8) (e.reclen - 8) (omega arith) (omega arith) (kept-put (pos + 8) name (put_header o pos e block)))
      (kept_wider (pos + 8) (e.reclen - 8) (omega arith) (omega arith) (kept-put (pos + 8 + e.namelen) (zeros (e.reclen - (8 + e.namelen))) (put (pos + 8) name (put_header o pos e block))))

  fields-kept : 8 ≤ e.reclen → Kept pos e.reclen block (put_header o pos e block)
  unfolding put_header
  fields-kept f =
      kept_trans (kept_wider pos e.reclen (omega arith) (omega arith) (kept-put_num o 4 pos e.inr block))
      (kept_trans (kept_wider pos e.reclen (omega arith) (omega arith) (kept-put_num o 2 (pos + 4) e.reclen (put_num o 4 pos e.inr block)))
      (kept_trans (kept_wider pos e.reclen (omega arith) (omega arith) (kept-put_num o 1 (pos + 6) e.kind (put_num o 2 (pos + 4) e.reclen (put_num o 4 pos e.inr block))))
      (kept_wider pos e.reclen (omega arith) (omega arith) (kept-put_num o 1 (pos + 7) e.namelen (put_num o 1 (pos + 6) e.kind (put_num o 2 (pos + 4) e.reclen (put_num o 4 pos e.inr block)))))))

  module _ (name : List ℕ) (l : length name ≡ e.namelen) (g : Good (length block) pos e) where
    long : 8 + e.namelen ≤ e.reclen
    long = omega (arith, g.least, smallest-low e.namelen)

    -- nothing outside the record is touched
    pub kept-rec : Kept pos e.reclen block (put_rec o pos e name block)
    kept-rec =
        let f = long in
        kept_trans (fields-kept (omega arith)) (kept_wider pos e.reclen (omega arith) (omega arith) (kept-header name l long))

    entry-written : entry_at o pos (put_rec o pos e name block) ≡ e
    entry-written =
        let f = long in
        entry-kept o (kept-header name l long) pos (inl (omega arith)) ∙ header_read (omega (arith, g.inside)) g.narrow

    -- the record is read back
    pub rec-written : rec_at o (put_rec o pos e name block) pos ≡ Used e
    rec-written =
        let f = long in
        let i = g.inside in
        rec_judged o (put_rec o pos e name block) pos (length block - pos) e (rw (length_rec o pos e name block)) (sym entry-written)
        ∙ judged-kind (length block - pos) e (omega arith) (λ z. omega arith) g.least (omega arith) g.inode
        ∙ rw g.kind

    -- and so is its name
    pub name-written : name_at (put_rec o pos e name block) pos e ≡ name
    unfolding name_at put_rec
    name-written =
        let f = long in
        let z = length-zeros (e.reclen - (8 + e.namelen)) in
        part-put-apart e.namelen (pos + 8) (pos + 8 + e.namelen) (zeros (e.reclen - (8 + e.namelen))) (put (pos + 8) name (put_header o pos e block)) (inl (omega arith))
        ∙ ap (λ (m : ℕ). part m (pos + 8) (put (pos + 8) name (put_header o pos e block))) (sym l)
        ∙ part-put (pos + 8) name (put_header o pos e block) (omega (arith, length_header o pos e block, g.inside))
