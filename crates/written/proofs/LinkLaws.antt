-- The steps of setting an address: a store elsewhere, an entry of a list, and one of the record's addresses. Assumes nothing.
use mathlib.Core.Path.{◌≡◌, refl, sym, ap, subst, ◌∙◌}
use mathlib.Core.List.{List}
use mathlib.Core.Logic.{◌⊎◌, inl, inr, ⊎_elim}
use Prim.Native.Nat.{ℕ, suc, ◌+◌, ◌*◌, ◌<◌}
use native.Mathlib.Omega.{arith}
use native.Mathlib.Decide.{ℕ_discrete, dec_lt}
use lib.Dec.{eqb}
use borrow.Author.Tests.{eq-eqb, ne_eqb}
use Rattle.store.specs.Where.{Range, KeptBut}
use Rattle.store.proofs.OnlyLaws.{kept-but-more}
use Rattle.volume.specs.declared.Geometry.{Geometry}
use Rattle.frame.specs.Frame.{Frame, RunOk}
use Rattle.inode.specs.Size.{pick}
use Rattle.mapping.specs.Mapping.{per_list, entry_at}
use Rattle.mapping.proofs.MappingLaws.{per-some}
use Rattle.books.specs.Books.{Book, Steady}
use Rattle.touched_write.specs.Free.{Free}
use Rattle.written.specs.Own.{Pos, levels, Valid, child, node, node_at, Claims, Own}
use Rattle.written.proofs.NodeLaws.{pos, pos_dec, IsList, IsData, child-some, child-node, child-valid, grown}
use Rattle.written.proofs.MoveLaws.{of_free, of_list, StepByte, of_books, of_lists, Moved, moved-step}
use Rattle.written.proofs.ClaimLaws.{list-claim, claim-books, entry-same, entry-kept, entry-among}

abbrev pub Nothing : ℕ → Type 0
Nothing j = ⊥

-- ---- stores into no list

module _ (geo : Geometry) (size : ℕ) (top above : ℕ → ℕ) (xs ys : List ℕ) (fr : Frame geo xs) (same : (k : ℕ) → k < 15 → above k ≡ top k)
    (Q : ℕ → Type 0) (kept : KeptBut Q xs ys) (quiet : (c : Pos) (j : ℕ) → IsList c → Claims geo size top xs c j → Q j → ⊥) where
  -- no place: none is new
  nowhere : Pos
  nowhere = pos 15 0 0

  none-new : Valid geo nowhere → ⊥
  unfolding nowhere
  none-new v = omega (arith, v.root)

  entries : (c : Pos) → Valid geo c → IsList c → (node_at geo xs top c ≡ 0 → ⊥) → (i : ℕ) → i < per_list geo
      → (entry_at geo ys (node_at geo xs top c) i ≡ entry_at geo xs (node_at geo xs top c) i) ⊎ ((pos c.root (suc c.depth) (c.slot * per_list geo + i) ≡ nowhere) × (entry_at geo ys (node_at geo xs top c) i ≡ 0))
  entries c v l n i b = inl (entry-same geo fr kept (node_at geo xs top c) i b (λ j r q. quiet c j l (list-claim geo size top xs fr c v l n j r) q))

  pub else-node : (c : Pos) → Valid geo c → node_at geo ys above c ≡ node_at geo xs top c
  else-node c v =
      ⊎_elim (λ s. s) (λ h. absurd (none-new (subst (Valid geo) h.0 v)))
      (grown geo (per-some geo xs fr) top above xs ys nowhere 0 (λ k l. inl (same k l)) entries (λ w. absurd (none-new w)) (λ w. absurd (none-new w)) c.root c.depth c.slot v)

  pub else-moved : (R : ℕ → Type 0) → Own geo size top xs → Steady geo xs ys → ((j : ℕ) → Free geo ys j → Free geo xs j) → KeptBut (StepByte R geo size top xs) xs ys
      → (c : Pos) → Valid geo c → {v : ℕ} → node_at geo xs top c ≡ v → Moved R geo size c v top xs above ys
  unfolding nowhere
  else-moved R own steady fewer bytes c w {v} e =
      moved-step R geo size (per-some geo xs fr) top above xs ys nowhere 0 (λ k l. inl (same k l)) entries (λ w. absurd (none-new w)) (λ w. absurd (none-new w))
      fr own steady fewer (λ w. absurd (none-new w)) (λ w. absurd (none-new w)) (λ w. absurd (none-new w)) bytes (λ w. absurd (none-new w)) c
      (λ z. absurd (let y : ⊥ = omega (arith, z) in y)) v (else-node c w ∙ e)

-- ---- an entry of a list

pub data LinkByte (geo : Geometry) (img : List ℕ) (b i j : ℕ) : Type 0 where
  by_book : Book geo img j → LinkByte geo img b i j
  by_free : Free geo img j → LinkByte geo img b i j
  by_entry : Range (b * geo.fsize + i * 8) 8 j → LinkByte geo img b i j

module _ (geo : Geometry) (size : ℕ) (top : ℕ → ℕ) (xs ys : List ℕ) (fr : Frame geo xs) (own : Own geo size top xs) (r d q i : ℕ)
    (v : Valid geo (pos r d q)) (l : d < levels r) (n : node geo xs (top r) d q ≡ 0 → ⊥) (li : i < per_list geo) (e : ℕ)
    (kept : KeptBut (LinkByte geo xs (node geo xs (top r) d q) i) xs ys) (entry : entry_at geo ys (node geo xs (top r) d q) i ≡ e) (was : entry_at geo xs (node geo xs (top r) d q) i ≡ 0) where
  abbrev new : Pos
  new = pos r (suc d) (q * per_list geo + i)

  abbrev some : 0 < per_list geo
  some = per-some geo xs fr

  pub new-valid : Valid geo new
  new-valid = child-valid geo some r d q i v l li

  here-claim : (j : ℕ) → Range (node geo xs (top r) d q * geo.fsize) geo.bsize j → Claims geo size top xs (pos r d q) j
  here-claim j w = list-claim geo size top xs fr (pos r d q) v l n j w

  -- bytes of a list elsewhere are none of these; and of this list only the entry's
  apart : (c : Pos) → (c ≡ pos r d q → ⊥) → (j : ℕ) → Claims geo size top xs c j → LinkByte geo xs (node geo xs (top r) d q) i j → ⊥
  apart c ne j p (by_book b) = claim-books geo size top xs fr own c j p b
  apart c ne j p (by_free f) = own.used c j p f
  apart c ne j p (by_entry w) = ne (own.once c (pos r d q) j p (here-claim j (entry-among geo xs fr _ i j li w)))

  beside : (m j : ℕ) → m < per_list geo → (m ≡ i → ⊥) → Range (node geo xs (top r) d q * geo.fsize + m * 8) 8 j → LinkByte geo xs (node geo xs (top r) d q) i j → ⊥
  beside m j lm ne w (by_book b) = claim-books geo size top xs fr own (pos r d q) j (here-claim j (entry-among geo xs fr _ m j lm w)) b
  beside m j lm ne w (by_free f) = own.used (pos r d q) j (here-claim j (entry-among geo xs fr _ m j lm w)) f
  beside m j lm ne w (by_entry u) = ne (by (dec_lt m i) (dec_lt i m))
    where
      by : Dec (m < i) → Dec (i < m) → m ≡ i
      by (yes a) b = absurd (let z : ⊥ = omega (arith, w.0, w.1, u.0, u.1, a) in z)
      by (no a) (yes b) = absurd (let z : ⊥ = omega (arith, w.0, w.1, u.0, u.1, b) in z)
      by (no a) (no b) = omega arith

  entries-then : (c : Pos) → Valid geo c → IsList c → (node_at geo xs top c ≡ 0 → ⊥) → (m : ℕ) → m < per_list geo
      → (entry_at geo ys (node_at geo xs top c) m ≡ entry_at geo xs (node_at geo xs top c) m) ⊎ ((pos c.root (suc c.depth) (c.slot * per_list geo + m) ≡ new) × (entry_at geo ys (node_at geo xs top c) m ≡ e))
  entries-then c w k z m lm = go (pos_dec c (pos r d q)) (ℕ_discrete m i)
    where
      go : Dec (c ≡ pos r d q) → Dec (m ≡ i) → (entry_at geo ys (node_at geo xs top c) m ≡ entry_at geo xs (node_at geo xs top c) m) ⊎ ((pos c.root (suc c.depth) (c.slot * per_list geo + m) ≡ new) × (entry_at geo ys (node_at geo xs top c) m ≡ e))
      go (no ne) x = inl (entry-same geo fr kept (node_at geo xs top c) m lm (λ j u t. apart c ne j (list-claim geo size top xs fr c w k z j u) t))
      go (yes h) (no x) = inl (entry-kept geo fr kept (node_at geo xs top c) m lm (λ j u t. beside m j lm x (subst (λ (c : Pos). Range (node_at geo xs top c * geo.fsize + m * 8) 8 j) h u) t))
      go (yes h) (yes x) = inr (ap (λ (c : Pos). pos c.root (suc c.depth) (c.slot * per_list geo + m)) h ∙ ap (λ (m : ℕ). pos r (suc d) (q * per_list geo + m)) x, ap (λ (c : Pos). entry_at geo ys (node_at geo xs top c) m) h ∙ ap (entry_at geo ys (node geo xs (top r) d q)) x ∙ entry)

  hole : node_at geo xs top new ≡ 0
  hole = child-node geo some xs (top r) d q i li ∙ child-some geo xs i n ∙ was

  bytes : KeptBut (StepByte Nothing geo size top xs) xs ys
  bytes = kept-but-more named kept
    where
      named : (j : ℕ) → LinkByte geo xs (node geo xs (top r) d q) i j → StepByte Nothing geo size top xs j
      named j (by_book b) = of_books b
      named j (by_free f) = of_lists (of_free f)
      named j (by_entry w) = of_lists (of_list (pos r d q) l (here-claim j (entry-among geo xs fr _ i j li w)))

  module _ (steady : Steady geo xs ys) (fewer : (j : ℕ) → Free geo ys j → Free geo xs j) (born : RunOk geo ys e geo.frag)
      (unclaimed : (c : Pos) (j : ℕ) → Claims geo size top xs c j → Range (e * geo.fsize) geo.bsize j → ⊥) (taken : (j : ℕ) → Free geo ys j → Range (e * geo.fsize) geo.bsize j → ⊥)
      (blank : IsList new → (m : ℕ) → m < per_list geo → entry_at geo ys e m ≡ 0) where
    module _ (c : Pos) (w : Valid geo c) where
      then_at : (node_at geo ys top c ≡ node_at geo xs top c) ⊎ ((c ≡ new) × (node_at geo ys top c ≡ e))
      then_at = grown geo some top top xs ys new e (λ k _. inl refl) entries-then (λ _. hole) (λ _. blank) c.root c.depth c.slot w

      linked : (v : ℕ) → (IsList new → (j : ℕ) → Range (e * geo.fsize) geo.bsize j → Free geo xs j) → (IsData new → new ≡ c) → node_at geo ys top c ≡ v → Moved Nothing geo size c v top xs top ys
      linked v room kind here =
          moved-step Nothing geo size some top top xs ys new e (λ k _. inl refl) entries-then (λ _. hole) (λ _. blank) fr own steady fewer (λ _. born) (λ _. unclaimed) (λ _. taken) bytes (λ _. room) c kind v here

      -- a list more: the data are where they were
      pub link-list : IsList new → IsData c → node_at geo xs top c ≡ 0 → ((j : ℕ) → Range (e * geo.fsize) geo.bsize j → Free geo xs j) → Moved Nothing geo size c 0 top xs top ys
      link-list kin dat z room =
          linked 0 (λ _. room) (λ t. absurd (let y : ⊥ = omega (arith, kin, t) in y))
          (⊎_elim (λ s. s ∙ z) (λ h. absurd (let k : IsList c = subst IsList (sym h.0) kin in let y : ⊥ = omega (arith, k, dat) in y)) then_at)

    -- the new place holds what was stored
    pub link-node : node_at geo ys top new ≡ e
    link-node =
        let stays : node geo ys (top r) d q ≡ node geo xs (top r) d q = ⊎_elim (λ s. s) (λ h. absurd (let z : d ≡ suc d = ap (λ (x : Pos). x.depth) h.0 in let y : ⊥ = omega arith in y)) (then_at (pos r d q) v) in
        child-node geo some ys (top r) d q i li ∙ ap (λ (x : ℕ). child geo ys x i) stays ∙ child-some geo ys i n ∙ entry

    -- data
    pub link-data : IsData new → Moved Nothing geo size new e top xs top ys
    link-data dat = linked new new-valid e (λ k. absurd (let y : ⊥ = omega (arith, k, dat) in y)) (λ _. refl) link-node

-- ---- one of the record's addresses

-- the roots, with k's address e
abbrev pub with_root : (ℕ → ℕ) → ℕ → ℕ → ℕ → ℕ
with_root top k e n = pick (eqb n k) e (top n)

module _ (R : ℕ → Type 0) (geo : Geometry) (size : ℕ) (top : ℕ → ℕ) (xs ys : List ℕ) (fr : Frame geo xs) (own : Own geo size top xs) (k e : ℕ) (lk : k < 15) (was : top k ≡ 0)
    (Q : ℕ → Type 0) (kept : KeptBut Q xs ys) (quiet : (c : Pos) (j : ℕ) → IsList c → Claims geo size top xs c j → Q j → ⊥) (bytes : KeptBut (StepByte R geo size top xs) xs ys)
    (steady : Steady geo xs ys) (fewer : (j : ℕ) → Free geo ys j → Free geo xs j) (born : RunOk geo ys e geo.frag)
    (unclaimed : (c : Pos) (j : ℕ) → Claims geo size top xs c j → Range (e * geo.fsize) geo.bsize j → ⊥) (taken : (j : ℕ) → Free geo ys j → Range (e * geo.fsize) geo.bsize j → ⊥)
    (blank : IsList (pos k 0 0) → (m : ℕ) → m < per_list geo → entry_at geo ys e m ≡ 0) where
  base : (n : ℕ) → n < 15 → (with_root top k e n ≡ top n) ⊎ ((pos n 0 0 ≡ pos k 0 0) × (with_root top k e n ≡ e))
  base n l = go (ℕ_discrete n k)
    where
      go : Dec (n ≡ k) → (with_root top k e n ≡ top n) ⊎ ((pos n 0 0 ≡ pos k 0 0) × (with_root top k e n ≡ e))
      go (yes h) = inr (ap (λ (x : ℕ). pos x 0 0) h, rw (eq-eqb n k h) refl)
      go (no h) = inl (rw (ne_eqb n k h) refl)

  entries-stay : (c : Pos) → Valid geo c → IsList c → (node_at geo xs top c ≡ 0 → ⊥) → (i : ℕ) → i < per_list geo
      → (entry_at geo ys (node_at geo xs top c) i ≡ entry_at geo xs (node_at geo xs top c) i) ⊎ ((pos c.root (suc c.depth) (c.slot * per_list geo + i) ≡ pos k 0 0) × (entry_at geo ys (node_at geo xs top c) i ≡ e))
  entries-stay c v l n i b = inl (entry-same geo fr kept (node_at geo xs top c) i b (λ j r q. quiet c j l (list-claim geo size top xs fr c v l n j r) q))

  hole-there : node_at geo xs top (pos k 0 0) ≡ 0
  unfolding node
  hole-there = was

  rooted-at : (c : Pos) → Valid geo c → (node_at geo ys (with_root top k e) c ≡ node_at geo xs top c) ⊎ ((c ≡ pos k 0 0) × (node_at geo ys (with_root top k e) c ≡ e))
  rooted-at c w = grown geo (per-some geo xs fr) top (with_root top k e) xs ys (pos k 0 0) e base entries-stay (λ _. hole-there) (λ _. blank) c.root c.depth c.slot w

  rooted : (c : Pos) (v : ℕ) → (IsList (pos k 0 0) → (j : ℕ) → Range (e * geo.fsize) geo.bsize j → Free geo xs j) → (IsData (pos k 0 0) → pos k 0 0 ≡ c) → node_at geo ys (with_root top k e) c ≡ v
      → Moved R geo size c v top xs (with_root top k e) ys
  rooted c v room kind here =
      moved-step R geo size (per-some geo xs fr) top (with_root top k e) xs ys (pos k 0 0) e base entries-stay (λ _. hole-there) (λ _. blank) fr own steady fewer (λ _. born) (λ _. unclaimed) (λ _. taken) bytes (λ _. room) c kind v here

  pub root-list : IsList (pos k 0 0) → (c : Pos) → Valid geo c → IsData c → node_at geo xs top c ≡ 0 → ((j : ℕ) → Range (e * geo.fsize) geo.bsize j → Free geo xs j) → Moved R geo size c 0 top xs (with_root top k e) ys
  root-list kin c w dat z room =
      rooted c 0 (λ _. room) (λ t. absurd (let y : ⊥ = omega (arith, kin, t) in y))
      (⊎_elim (λ s. s ∙ z) (λ h. absurd (let l : IsList c = subst IsList (sym h.0) kin in let y : ⊥ = omega (arith, l, dat) in y)) (rooted-at c w))

  root-there : node_at geo ys (with_root top k e) (pos k 0 0) ≡ e
  unfolding node
  root-there = rw (eq-eqb k k refl) refl

  pub root-data : IsData (pos k 0 0) → Moved R geo size (pos k 0 0) e top xs (with_root top k e) ys
  root-data dat = rooted (pos k 0 0) e (λ l. absurd (let y : ⊥ = omega (arith, l, dat) in y)) (λ _. refl) root-there
