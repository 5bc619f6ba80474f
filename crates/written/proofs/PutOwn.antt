-- Bytes put into one block of a file: the file's byte there, and its other bytes. Assumes nothing.
use Rattle.std.specs.Prelude.{Some}
use mathlib.Core.Path.{◌≡◌, refl, sym, ap, ◌∙◌}
use mathlib.Core.Bool.{true}
use mathlib.Core.List.{List}
use mathlib.Core.Logic.{◌⊎◌, inl, inr, ⊎_elim}
use Prim.Native.Nat.{ℕ, ◌+◌, ◌*◌, ◌/◌, ◌%◌, ◌≤◌, ◌<◌}
use native.Mathlib.Nat.{mod-lt, div-add-mod'}
use native.Mathlib.Omega.{arith}
use native.Mathlib.Decide.{ℕ_discrete}
use lib.ListN.{length, get_or}
use borrow.Author.Tests.{eq-eqb, ne_eqb}
use Rattle.store.specs.Where.{Range}
use Rattle.volume.specs.declared.Geometry.{Geometry}
use Rattle.frame.specs.Frame.{Frame}
use Rattle.inode.specs.Size.{held_at}
use Rattle.mapping.specs.declared.Place.{Place}
use Rattle.mapping.specs.declared.Place.TheVariants as Place
use Rattle.mapping.specs.Zones.{place_of}
use Rattle.mapping.specs.Mapping.{per_list}
use Rattle.inode_run.specs.declared.Run.{Run}
use Rattle.inode_run.specs.Run.{run_at, readable, byte_in, file_byte}
use Rattle.inode_read.proofs.ReachLaws.{block-some, held-covers}
use Rattle.inode_read.proofs.FileLaws.{block-byte}
use Rattle.books.specs.Books.{Steady}
use Rattle.written.specs.Own.{Pos, Valid, node_at, addresses, block_index, Claims, Own, Ended}
use Rattle.written.proofs.NodeLaws.{pos, pos_dec, IsData}
use Rattle.written.proofs.TouchLaws.{Touched}
use Rattle.written.proofs.MapOwn.{Indexed, indexed, index-same, content, run-hole, run-there, data-claim, byte-there, run_past}

-- a test at every point of a file: where the block of a byte is
split-byte : (w b : ℕ) → w ≡ w / b * b + w % b
split-byte w b = sym (div-add-mod' w b)

module _ (geo : Geometry) (size at : ℕ) where
  -- ---- what bytes put into the block at place c, of index i and n bytes, leave

  pub record Put (c : Pos) (n from : ℕ) (bytes x z : List ℕ) : Type 0 where
    pub steady : Steady geo x z
    pub touched : Touched geo size at x z
    pub front : (j : ℕ) → Range at 24 j → get_or z j 0 ≡ get_or x j 0
    pub own : Own geo size (addresses geo at z) z
    pub others : (d : Pos) → IsData d → Valid geo d → (d ≡ c → ⊥) → node_at geo z (addresses geo at z) d ≡ node_at geo x (addresses geo at x) d
    pub live : node_at geo z (addresses geo at z) c ≡ 0 → ⊥
    pub kept : (d : Pos) (j : ℕ) → IsData d → (d ≡ c → ⊥) → Claims geo size (addresses geo at x) x d j → get_or z j 0 ≡ get_or x j 0
    pub changed : (k : ℕ) → k < length bytes → get_or z (node_at geo z (addresses geo at z) c * geo.fsize + (from + k)) 0 ≡ get_or bytes k 0
    pub beside : (k : ℕ) → k < n → (k < from) ⊎ (from + length bytes ≤ k) → get_or z (node_at geo z (addresses geo at z) c * geo.fsize + k) 0 ≡ content geo x (node_at geo x (addresses geo at x) c) k

  -- the same of the file's bytes
  pub record Turned (i from : ℕ) (bytes x z : List ℕ) : Type 0 where
    pub steady : Steady geo x z
    pub touched : Touched geo size at x z
    pub front : (j : ℕ) → Range at 24 j → get_or z j 0 ≡ get_or x j 0
    pub own : Own geo size (addresses geo at z) z
    pub ended : Ended geo size (addresses geo at x) x → Ended geo size (addresses geo at z) z
    pub inside : (k : ℕ) → k < length bytes → file_byte geo at size z (i * geo.bsize + (from + k)) ≡ get_or bytes k 0
    pub outside : (w : ℕ) → w < size → (w < i * geo.bsize + from) ⊎ (i * geo.bsize + (from + length bytes) ≤ w) → file_byte geo at size z w ≡ file_byte geo at size x w
    pub here : readable (run_at geo at size z i) ≡ true
    pub reads : (k : ℕ) → k * geo.bsize < size → readable (run_at geo at size x k) ≡ true → readable (run_at geo at size z k) ≡ true

  module _ (x z : List ℕ) (fr : Frame geo x) (own : Own geo size (addresses geo at x) x) (i : ℕ) (c : Pos) (p : Indexed geo i c) (n : ℕ) (h : held_at geo size i ≡ Some n)
      (from : ℕ) (bytes : List ℕ) (some : 0 < length bytes) (fits : from + length bytes ≤ n) (most : n ≤ geo.bsize) (reach : i * geo.bsize < size) (m : Put c n from bytes x z) where
    fz : Frame geo z
    fz = m.steady.frame

    inside-byte : (k : ℕ) → k < length bytes → file_byte geo at size z (i * geo.bsize + (from + k)) ≡ get_or bytes k 0
    inside-byte k l =
        let v = node_at geo z (addresses geo at z) c in
        block-byte geo at size z i (from + k) (omega arith)
        ∙ byte-there geo size at z fz m.own i c p n h (from + k) (omega arith)
        ∙ rw (ne_eqb v 0 m.live) (m.changed k l)

    -- a block, by its place
    module _ (k : ℕ) where
      same-place : (d : Pos) → Indexed geo k d → (d ≡ c → ⊥) → node_at geo z (addresses geo at z) d ≡ node_at geo x (addresses geo at x) d
      same-place d q ne = m.others d q.leaf q.valid ne

      module _ (e : ℕ) (held : held_at geo size k ≡ Some e) where
        still : (d : Pos) → Indexed geo k d → (d ≡ c → ⊥) → (b : ℕ) → b < e → content geo z (node_at geo z (addresses geo at z) d) b ≡ content geo x (node_at geo x (addresses geo at x) d) b
        still d q ne b l = ap (λ (v : ℕ). content geo z v b) (same-place d q ne) ∙ go (ℕ_discrete (node_at geo x (addresses geo at x) d) 0)
          where
            go : Dec (node_at geo x (addresses geo at x) d ≡ 0) → content geo z (node_at geo x (addresses geo at x) d) b ≡ content geo x (node_at geo x (addresses geo at x) d) b
            go (yes y) = rw (eq-eqb (node_at geo x (addresses geo at x) d) 0 y) refl
            go (no y) = rw (ne_eqb (node_at geo x (addresses geo at x) d) 0 y) (m.kept d _ q.leaf ne (data-claim geo size at x fr own k d q e held y b l))

        -- a byte of it that was not written
        quiet : (b : ℕ) → b < e → (k ≡ i → (b < from) ⊎ (from + length bytes ≤ b)) → byte_in geo z (run_at geo at size z k) b ≡ byte_in geo x (run_at geo at size x k) b
        quiet b l o = go (place_of (per_list geo) k) refl
          where
            there : (d : Pos) → Indexed geo k d → Dec (d ≡ c) → byte_in geo z (run_at geo at size z k) b ≡ byte_in geo x (run_at geo at size x k) b
            there d q (no ne) = byte-there geo size at z fz m.own k d q e held b l ∙ still d q ne b l ∙ sym (byte-there geo size at x fr own k d q e held b l)
            there d q (yes y) =
                let is = index-same geo k i d c q p y in
                let same : e ≡ n = (let w : Some e ≡ Some n = sym held ∙ ap (held_at geo size) is ∙ h in cc) in
                byte-there geo size at z fz m.own k d q e held b l
                ∙ ap (λ (d : Pos). content geo z (node_at geo z (addresses geo at z) d) b) y
                ∙ rw (ne_eqb (node_at geo z (addresses geo at z) c) 0 m.live) (m.beside b (omega (arith, l, same)) (o is))
                ∙ ap (λ (d : Pos). content geo x (node_at geo x (addresses geo at x) d) b) (sym y)
                ∙ sym (byte-there geo size at x fr own k d q e held b l)

            go : (w : Place) → place_of (per_list geo) k ≡ w → byte_in geo z (run_at geo at size z k) b ≡ byte_in geo x (run_at geo at size x k) b
            go (Place.Under root level rest) y = let q = indexed geo k root level rest (sym y) in there (pos root level rest.0) q (pos_dec (pos root level rest.0) c)
            go Place.Past y = ap (λ (r : Run). byte_in geo z r b) (run_past geo size at z fz m.own k (sym y) e held) ∙ sym (ap (λ (r : Run). byte_in geo x r b) (run_past geo size at x fr own k (sym y) e held))

        -- what could be read still can be
        reads-still : 0 < e → readable (run_at geo at size x k) ≡ true → readable (run_at geo at size z k) ≡ true
        reads-still pos-e can = go (place_of (per_list geo) k) refl
          where
            there : (d : Pos) → Indexed geo k d → Dec (node_at geo z (addresses geo at z) d ≡ 0) → readable (run_at geo at size z k) ≡ true
            there d q (yes y) = ap readable (run-hole geo size at z fz m.own k d q e held y)
            there d q (no y) = ap readable (run-there geo size at z fz m.own k d q e held y pos-e)

            go : (w : Place) → place_of (per_list geo) k ≡ w → readable (run_at geo at size z k) ≡ true
            go (Place.Under root level rest) y = there (pos root level rest.0) (indexed geo k root level rest (sym y)) (ℕ_discrete (node_at geo z (addresses geo at z) (pos root level rest.0)) 0)
            go Place.Past y = absurd (let w = sym can ∙ ap readable (run_past geo size at x fr own k (sym y) e held) in let y : ◌≡◌ {A = ℕ} 0 1 = cc in let f : ⊥ = omega arith in f)

    outside-byte : (w : ℕ) → w < size → (w < i * geo.bsize + from) ⊎ (i * geo.bsize + (from + length bytes) ≤ w) → file_byte geo at size z w ≡ file_byte geo at size x w
    outside-byte w l o =
        let b = block-some geo fr.sizes in
        let k = w / geo.bsize in
        let r = w % geo.bsize in
        let is : w ≡ k * geo.bsize + r = split-byte w geo.bsize in
        let below : r < geo.bsize = mod-lt w b in
        let cover = held-covers geo fr.sizes size k (r + 1) (omega arith) (omega arith) (omega (arith, is, l)) in
        ap (file_byte geo at size z) is ∙ block-byte geo at size z k r below
        ∙ quiet k cover.held cover.is r (omega (arith, cover.far)) (λ e. let same : k * geo.bsize ≡ i * geo.bsize = ap (λ (n : ℕ). n * geo.bsize) e in ⊎_elim (λ y. inl (omega (arith, is, same, y))) (λ y. inr (omega (arith, is, same, y))) o)
        ∙ sym (block-byte geo at size x k r below) ∙ sym (ap (file_byte geo at size x) is)

    ended-then : Ended geo size (addresses geo at x) x → Ended geo size (addresses geo at z) z
    ended-then e = record { before = λ d v l n. go d v l n (pos_dec d c) }
      where
        go : (d : Pos) → Valid geo d → IsData d → (node_at geo z (addresses geo at z) d ≡ 0 → ⊥) → Dec (d ≡ c) → block_index (per_list geo) d.root d.slot * geo.bsize < size
        go d v l n (no ne) = e.before d v l (λ y. n (m.others d l v ne ∙ y))
        go d v l n (yes y) = let is = ap (λ (d : Pos). block_index (per_list geo) d.root d.slot) y ∙ p.index in rw is reach

    pub put-turned : Turned i from bytes x z
    put-turned =
        record {
          steady = m.steady;
          touched = m.touched;
          front = m.front;
          ended = ended-then;
          own = m.own;
          inside = inside-byte;
          outside = outside-byte;
          here = ap readable (run-there geo size at z fz m.own i c p n h m.live (omega arith));
          reads = λ k l can. let cover = held-covers geo fr.sizes size k 1 (omega arith) (omega (arith, block-some geo fr.sizes)) (omega arith) in reads-still k cover.held cover.is (omega (arith, cover.far)) can;
        }
