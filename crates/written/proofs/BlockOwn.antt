-- Writing into one block of a file whose blocks are its own: into one that has an address, and into a hole. Assumes nothing.
use Rattle.std.specs.Prelude.{Some}
use mathlib.Core.Path.{◌≡◌, refl, sym, ap, subst, ◌∙◌}
use mathlib.Core.List.{List, [], ◌∷◌}
use mathlib.Core.Logic.{inl, inr, ⊎_elim}
use Prim.Native.Nat.{ℕ, ◌+◌, ◌*◌, ◌/◌, ◌≤◌, ◌<◌}
use native.Mathlib.Omega.{arith}
use lib.ListN.{length, get_or}
use borrow.Author.Tests.{eq-eqb, ne_eqb}
use Rattle.field.specs.Field.{put, zeros}
use Rattle.field.proofs.Laws.{length-put, get_or-put, part-put, part_at, length-zeros, get_or-zeros}
use Rattle.store.specs.Store.{Write, Store, apply}
use Rattle.store.specs.Where.{none, more, Range, StoreIn}
use Rattle.store.proofs.StoreLaws.{apply-one, apply_append}
use Rattle.store.proofs.OnlyLaws.{kept-but-more, kept-but-num, kept-but-store, kept-store}
use Rattle.volume.specs.declared.Geometry.{Geometry}
use Rattle.frame.specs.Frame.{Frame, RunOk}
use Rattle.frame.proofs.Places.{run_inside}
use Rattle.inode.specs.Size.{held_at}
use Rattle.inode.specs.Shape.{address_at}
use Rattle.books.specs.Books.{Steady}
use Rattle.books.proofs.SteadyLaws.{steady-trans, run-steady}
use Rattle.inode_setblock.specs.Set.{InTable}
use Rattle.inode_write.specs.Write.{piece_store, fresh_store}
use Rattle.touched_write.specs.Free.{Free}
use Rattle.touched_write.proofs.FreeLaws.{free-elsewhere}
use Rattle.touched_write.proofs.ApartLaws.{table-books}
use Rattle.touched_write.proofs.SetStores.{store-more}
use Rattle.touched_write.proofs.WriteStores.{piece_in}
use Rattle.written.specs.Own.{Pos, node_at, addresses, length_at, Claims, Own, of_record, of_claim}
use Rattle.written.specs.Own as File
use Rattle.written.proofs.NodeLaws.{IsList, IsData}
use Rattle.written.proofs.MoveLaws.{length-most, of_free, of_list, StepByte, of_books, of_lists, of_more, Moved}
use Rattle.written.proofs.ClaimLaws.{some-frags, claim-books, claim-table, free-table, length-whole}
use Rattle.written.proofs.LinkLaws.{else-moved}
use Rattle.written.proofs.RootOwn.{Tail, tail_record, as-stored}
use Rattle.written.proofs.MapOwn.{Indexed, length-there, data-claim}
use Rattle.written.proofs.TouchLaws.{Touched, touched-trans, moved-touched, stays-touched}
use Rattle.written.proofs.PutOwn.{Put}

-- a byte that was put
put-byte : (at : ℕ) (vs xs : List ℕ) (k : ℕ) → k < length vs → at + length vs ≤ length xs → get_or (put at vs xs) (at + k) 0 ≡ get_or vs k 0
put-byte at vs xs k l w = part_at at vs (put at vs xs) k l (part-put at vs xs w)

-- ---- stores into the data at place c

module _ (geo : Geometry) (size at : ℕ) (t : InTable geo at) (x : List ℕ) (fr : Frame geo x) (own : Own geo size (addresses geo at x) x)
    (i : ℕ) (c : Pos) (p : Indexed geo i c) (n : ℕ) (h : held_at geo size i ≡ Some n) (live : node_at geo x (addresses geo at x) c ≡ 0 → ⊥) (some : 0 < n) where
  abbrev v : ℕ
  v = node_at geo x (addresses geo at x) c

  pub data-whole : n / geo.fsize * geo.fsize ≡ n
  data-whole = subst (λ (m : ℕ). m / geo.fsize * geo.fsize ≡ m) (length-there geo size at x fr own i c p n h) (length-whole geo fr.sizes size c)

  data-run : RunOk geo x v (n / geo.fsize)
  data-run = subst (λ (m : ℕ). RunOk geo x v (m / geo.fsize)) (length-there geo size at x fr own i c p n h) (own.ok c (v * geo.fsize + 0) (data-claim geo size at x fr own i c p n h live 0 some))

  pub data-room : v * geo.fsize + n ≤ length x
  data-room = omega (arith, run_inside geo x fr v (n / geo.fsize) data-run, data-whole)

  pub claimed : (j : ℕ) → Range (v * geo.fsize) n j → Claims geo size (addresses geo at x) x c j
  claimed j r = record { valid = p.valid; live = live; byte = (r.0, omega (arith, r.1, length-there geo size at x fr own i c p n h)) }

  module _ (s : Store) (o : StoreIn (Range (v * geo.fsize) n) s) where
    abbrev z : List ℕ
    z = apply s x

    data-steady : Steady geo x z
    data-steady =
        run-steady geo x fr v (n / geo.fsize) z (some-frags (n / geo.fsize) (v * geo.fsize) geo.fsize (v * geo.fsize) (omega arith, omega (arith, data-whole, some))) data-run
        (kept-store (store-more (λ j r. (r.0, omega (arith, r.1, data-whole))) o) x)

    data-fewer : (j : ℕ) → Free geo z j → Free geo x j
    data-fewer j f = free-elsewhere geo data-steady (kept-but-store o x) (λ j r b. claim-books geo size (addresses geo at x) x fr own c j (claimed j r) b) f

    data-roots : (k : ℕ) → k < 15 → address_at geo.order at k z ≡ address_at geo.order at k x
    unfolding address_at
    data-roots k l = kept-but-num (kept-but-store o x) 8 (at + 112 + k * 8) (λ j r q. claim-table geo size (addresses geo at x) x fr own c j (claimed j q) at t (omega (arith, r.0), omega (arith, r.1, l))) geo.order

    pub data-moved : Moved (Range (v * geo.fsize) n) geo size c v (addresses geo at x) x (addresses geo at z) z
    data-moved =
        as-stored geo size at t p.valid
        (else-moved geo size (addresses geo at x) (addresses geo at x) x z fr (λ k l. refl) (Range (v * geo.fsize) n) (kept-but-store o x)
        (λ d j l q r. let e = own.once d c j q (claimed j r) in let k : IsList c = subst IsList e l in let y : ⊥ = omega (arith, k, p.leaf) in y)
        (Range (v * geo.fsize) n) own data-steady data-fewer (kept-but-more (λ j r. of_more r) (kept-but-store o x)) c p.valid refl)
        data-roots

    -- the other data keep their bytes
    pub data-kept : (d : Pos) (j : ℕ) → (d ≡ c → ⊥) → Claims geo size (addresses geo at x) x d j → get_or z j 0 ≡ get_or x j 0
    data-kept d j ne q = (kept-but-store o x).byte j (λ r. ne (own.once d c j q (claimed j r)))

    -- nor is the record stored into
    pub data-front : (j : ℕ) → Range at 24 j → get_or z j 0 ≡ get_or x j 0
    data-front j r = (kept-but-store o x).byte j (λ q. claim-table geo size (addresses geo at x) x fr own c j (claimed j q) at t (r.0, omega (arith, r.1)))

-- ---- a block that has an address

module _ (geo : Geometry) (size at : ℕ) (t : InTable geo at) (x : List ℕ) (fr : Frame geo x) (own : Own geo size (addresses geo at x) x)
    (i : ℕ) (c : Pos) (p : Indexed geo i c) (n : ℕ) (h : held_at geo size i ≡ Some n) (live : node_at geo x (addresses geo at x) c ≡ 0 → ⊥) (some : 0 < n)
    (from : ℕ) (bytes : List ℕ) (fits : from + length bytes ≤ n) where
  pub piece-put : Put geo size at c n from bytes x (apply (piece_store geo (node_at geo x (addresses geo at x) c) from bytes) x)
  unfolding piece_store
  piece-put =
      let v = node_at geo x (addresses geo at x) c in
      let s = piece_store geo v from bytes in
      let o = piece_in geo v n from bytes fits in
      let m = data-moved geo size at t x fr own i c p n h live some s o in
      let w : Write = record { at = v * geo.fsize + from; bytes = bytes } in
      let room = data-room geo size at t x fr own i c p n h live some in
      record {
        steady = m.steady;
        touched = stays-touched geo size at m (λ j r. of_claim c (claimed geo size at t x fr own i c p n h live some j r));
        front = data-front geo size at t x fr own i c p n h live some s o;
        own = m.own;
        others = m.others;
        live = λ e. live (sym m.here ∙ e);
        kept = λ d j l ne q. data-kept geo size at t x fr own i c p n h live some s o d j ne q;
        changed = λ k l.
            ap (λ (a : ℕ). get_or (apply s x) (a * geo.fsize + (from + k)) 0) m.here
            ∙ ap (λ (y : List ℕ). get_or y (v * geo.fsize + (from + k)) 0) (apply-one w x)
            ∙ ap (λ (j : ℕ). get_or (put (v * geo.fsize + from) bytes x) j 0) (omega arith)
            ∙ put-byte (v * geo.fsize + from) bytes x k l (omega (arith, room, fits));
        beside = λ k l q.
            ap (λ (a : ℕ). get_or (apply s x) (a * geo.fsize + k) 0) m.here
            ∙ ap (λ (y : List ℕ). get_or y (v * geo.fsize + k) 0) (apply-one w x)
            ∙ get_or-put (v * geo.fsize + from) bytes x (v * geo.fsize + k) (⊎_elim (λ b. inl (omega arith)) (λ b. inr (omega arith)) q)
            ∙ rw (ne_eqb v 0 live) refl;
      }

-- ---- a hole that was given the block at a

module _ (geo : Geometry) (size at : ℕ) (t : InTable geo at) (x y : List ℕ) (fr : Frame geo x) (own : Own geo size (addresses geo at x) x)
    (i : ℕ) (c : Pos) (p : Indexed geo i c) (n : ℕ) (h : held_at geo size i ≡ Some n) (some : 0 < n) (a : ℕ)
    (hole : node_at geo x (addresses geo at x) c ≡ 0) (m : Moved (Tail at) geo size c a (addresses geo at x) x (addresses geo at y) y) (good : a ≡ 0 → ⊥)
    (free : (j : ℕ) → Range (a * geo.fsize) geo.bsize j → Free geo x j) (from : ℕ) (bytes : List ℕ) (fits : from + length bytes ≤ n) where
  fy : Frame geo y
  fy = m.steady.frame

  live_then : node_at geo y (addresses geo at y) c ≡ 0 → ⊥
  live_then e = good (sym m.here ∙ e)

  -- data bytes of other places are none that setting an address changes
  step_kept : (d : Pos) (j : ℕ) → IsData d → (d ≡ c → ⊥) → Claims geo size (addresses geo at x) x d j → get_or y j 0 ≡ get_or x j 0
  step_kept d j l ne q = m.bytes.byte j not
    where
      not : StepByte (Tail at) geo size (addresses geo at x) x j → ⊥
      not (of_books b) = claim-books geo size (addresses geo at x) x fr own d j q b
      not (of_lists (of_free f)) = own.used d j q f
      not (of_lists (of_list e k r)) = let s = own.once d e j q r in let u : IsList d = subst IsList (sym s) k in omega (arith, u, l)
      not (of_more r) = claim-table geo size (addresses geo at x) x fr own d j q at t (tail_record at r)

  -- of the record only its tail
  step-front : (j : ℕ) → Range at 24 j → get_or y j 0 ≡ get_or x j 0
  step-front j r = m.bytes.byte j not
    where
      wide : Range at 256 j
      wide = (r.0, omega (arith, r.1))

      not : StepByte (Tail at) geo size (addresses geo at x) x j → ⊥
      not (of_books b) = table-books geo x fr at t wide b
      not (of_lists (of_free f)) = free-table geo x fr at t f wide
      not (of_lists (of_list e k q)) = claim-table geo size (addresses geo at x) x fr own e j q at t wide
      not (of_more q) = omega (arith, r.1, q.0)

  -- the block that was given was free
  step-touched : Touched geo size at x y
  step-touched =
      moved-touched geo size at m (λ j r. of_record (tail_record at r))
      (λ j q. let w = subst (λ (k : ℕ). Range (k * geo.fsize) (length_at geo size c) j) m.here q.byte in File.of_free (free j (w.0, omega (arith, w.1, length-most geo fr.sizes size c))))

  abbrev b : ℕ
  b = node_at geo y (addresses geo at y) c

  fresh-within : StoreIn (Range (b * geo.fsize) n) (fresh_store geo b n from bytes)
  unfolding fresh_store
  fresh-within =
      more {x = record { at = b * geo.fsize; bytes = zeros n }} (λ j lo hi. (lo, omega (arith, rw (length-zeros n) at hi)))
      (more {x = record { at = b * geo.fsize + from; bytes = bytes }} (λ j lo hi. (omega (arith, lo), omega (arith, hi, fits))) none)

  stored_is : apply (fresh_store geo b n from bytes) y ≡ put (b * geo.fsize + from) bytes (put (b * geo.fsize) (zeros n) y)
  unfolding fresh_store
  stored_is =
      let u : Write = record { at = b * geo.fsize; bytes = zeros n } in
      let w : Write = record { at = b * geo.fsize + from; bytes = bytes } in
      apply_append (u ∷ []) (w ∷ []) y ∙ apply-one w (apply (u ∷ []) y) ∙ ap (put (b * geo.fsize + from) bytes) (apply-one u y)

  there-put : Put geo size at c n from bytes x (apply (fresh_store geo b n from bytes) y)
  there-put =
      let s = fresh_store geo b n from bytes in
      let q = data-moved geo size at t y fy m.own i c p n h live_then some s fresh-within in
      let room = data-room geo size at t y fy m.own i c p n h live_then some in
      let zs = put (b * geo.fsize) (zeros n) y in
      let long = length-put (b * geo.fsize) (zeros n) y in
      record {
        steady = steady-trans geo m.steady q.steady;
        touched = touched-trans geo size at m.steady step-touched (stays-touched geo size at q (λ j r. of_claim c (claimed geo size at t y fy m.own i c p n h live_then some j r)));
        front = λ j r. data-front geo size at t y fy m.own i c p n h live_then some s fresh-within j r ∙ step-front j r;
        own = q.own;
        others = λ d l v ne. q.others d l v ne ∙ m.others d l v ne;
        live = λ e. live_then (sym q.here ∙ e);
        kept = λ d j l ne r.
            let same = m.others d l r.valid ne in
            data-kept geo size at t y fy m.own i c p n h live_then some s fresh-within d j ne
            (record { valid = r.valid; live = λ e. r.live (sym same ∙ e); byte = subst (λ (k : ℕ). Range (k * geo.fsize) (length_at geo size d) j) (sym same) r.byte })
            ∙ step_kept d j l ne r;
        changed = λ k l.
            ap (λ (a : ℕ). get_or (apply s y) (a * geo.fsize + (from + k)) 0) q.here
            ∙ ap (λ (y : List ℕ). get_or y (b * geo.fsize + (from + k)) 0) stored_is
            ∙ ap (λ (j : ℕ). get_or (put (b * geo.fsize + from) bytes zs) j 0) (omega arith)
            ∙ put-byte (b * geo.fsize + from) bytes zs k l (omega (arith, room, fits, long));
        beside = λ k l r.
            ap (λ (a : ℕ). get_or (apply s y) (a * geo.fsize + k) 0) q.here
            ∙ ap (λ (y : List ℕ). get_or y (b * geo.fsize + k) 0) stored_is
            ∙ get_or-put (b * geo.fsize + from) bytes zs (b * geo.fsize + k) (⊎_elim (λ b. inl (omega arith)) (λ b. inr (omega arith)) r)
            ∙ put-byte (b * geo.fsize) (zeros n) y k (omega (arith, l, length-zeros n)) (omega (arith, room, length-zeros n))
            ∙ get_or-zeros n k
            ∙ sym (rw (eq-eqb (node_at geo x (addresses geo at x) c) 0 hole) refl);
      }

  pub fresh-put : Put geo size at c n from bytes x (apply (fresh_store geo a n from bytes) y)
  fresh-put = subst (λ (k : ℕ). Put geo size at c n from bytes x (apply (fresh_store geo k n from bytes) y)) m.here there-put
