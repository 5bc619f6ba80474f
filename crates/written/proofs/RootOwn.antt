-- The same from the record: its addresses, and a root that is given out first and stored last. Assumes nothing.
use mathlib.Core.Path.{◌≡◌, refl, sym, ap, subst, ◌∙◌}
use mathlib.Core.Bool.{Bool, true, false}
use mathlib.Core.List.{List, [], ◌∷◌}
use mathlib.Core.Logic.{◌⊎◌, ⊎_elim}
use Prim.Native.Nat.{ℕ, zero, suc, ◌+◌, ◌*◌, ◌^◌, ◌≤◌, ◌<◌}
use native.Mathlib.Nat.{pow-zero, zero-mul}
use native.Mathlib.Omega.{arith}
use native.Mathlib.Decide.{ℕ_discrete}
use lib.ListN.{length}
use lib.Dec.{eqb}
use borrow.Author.Tests.{eq-eqb, ne_eqb, eqb-true, eqb-false}
use Rattle.store.specs.Store.{Store, apply, apply_all}
use Rattle.store.specs.Where.{none, more, Range, StoreIn}
use Rattle.store.specs.Act.{got, store, ◌>>=◌, choose}
use Rattle.store.proofs.StoreLaws.{apply_append, apply_all-one}
use Rattle.store.proofs.ActLaws.{through, stores-store}
use Rattle.store.proofs.OnlyLaws.{number_in, kept-but-refl, kept-but-more, kept-but-num, kept-but-store}
use Rattle.volume.specs.declared.Geometry.{Geometry}
use Rattle.frame.specs.Frame.{Frame}
use Rattle.frame.proofs.Places.{spots}
use Rattle.bits.proofs.BitsLaws.{frag-some}
use Rattle.inode.specs.Size.{pick}
use Rattle.inode.specs.Shape.{address_at}
use Rattle.inode.specs.Places.{address_write, blocks_write}
use Rattle.inode.proofs.PlaceLaws.{address-back, address-other, address_behind}
use Rattle.mapping.specs.Mapping.{per_list}
use Rattle.balloc_give.specs.Give.{give_zeroed}
use Rattle.books.specs.Books.{Book}
use Rattle.books.proofs.SteadyLaws.{steady-refl}
use Rattle.inode_setblock.specs.Set.{InTable, record_store, set_in, set_root, set_under}
use Rattle.inode_setblock.proofs.GivenLaws.{run-moves}
use Rattle.inode_setblock.proofs.SetKeeps.{record_steady}
use Rattle.touched_write.specs.Free.{Free}
use Rattle.touched_write.proofs.FreeLaws.{free-elsewhere}
use Rattle.touched_write.proofs.ApartLaws.{table-books}
use Rattle.touched_write.proofs.SetStores.{record_in_lem, store-more}
use Rattle.written.specs.Own.{Pos, levels, Valid, node, node_at, addresses, Own}
use Rattle.written.proofs.NodeLaws.{pos, node-top}
use Rattle.written.proofs.MoveLaws.{of_free, of_list, StepByte, of_books, of_lists, of_more, Moved, moved-trans, moved_more, Spare, spare-moved}
use Rattle.written.proofs.ClaimLaws.{claim-books, claim-table, free-table, run-small, run-some}
use Rattle.written.proofs.LinkLaws.{Nothing, else-moved, with_root, root-list, root-data}
use Rattle.written.proofs.GivenOwn.{Fresh, zeroed-fresh, zeroed-blank, fresh-unclaimed}
use Rattle.written.proofs.SetOwn.{bind_image, Way, set-moved}

-- of the record at `at`: how much the data hold, and on to the addresses
abbrev pub Tail : ℕ → ℕ → Type 0
Tail at = Range (at + 24) 208

pub tail_record : (at : ℕ) {j : ℕ} → Tail at j → Range at 256 j
tail_record at r = (omega (arith, r.0), omega (arith, r.1))

record_tail : (geo : Geometry) (at k v held : ℕ) → k < 15 → StoreIn (Tail at) (record_store geo at k v held)
unfolding record_store address_write blocks_write
record_tail geo at k v held l =
    more (number_in geo.order 8 (at + 112 + k * 8) v (λ j r. (omega (arith, r.0), omega (arith, r.1, l))))
    (more (number_in geo.order 8 (at + 24) held (λ j r. (omega (arith, r.0), omega (arith, r.1)))) none)

-- ---- the record stored

module _ (geo : Geometry) (at k v held : ℕ) (img : List ℕ) where
  split-store : apply (record_store geo at k v held) img ≡ apply (blocks_write geo.order at held ∷ []) (apply (address_write geo.order at k v ∷ []) img)
  unfolding record_store
  split-store = apply_append (address_write geo.order at k v ∷ []) (blocks_write geo.order at held ∷ []) img

  behind : (n : ℕ) (x : List ℕ) → address_at geo.order at n (apply (blocks_write geo.order at held ∷ []) x) ≡ address_at geo.order at n x
  unfolding blocks_write
  behind n x = address_behind geo.order at 24 8 held x n (omega arith)

  pub stored_there : v ≤ 1073741824 → k < 15 → at + 256 ≤ length img → address_at geo.order at k (apply (record_store geo at k v held) img) ≡ v
  stored_there small l w = ap (address_at geo.order at k) split-store ∙ behind k _ ∙ address-back geo.order at k v img (omega arith) l w

  pub stored-beside : (n : ℕ) → (n ≡ k → ⊥) → address_at geo.order at n (apply (record_store geo at k v held) img) ≡ address_at geo.order at n img
  stored-beside n ne = ap (address_at geo.order at n) split-store ∙ behind n _ ∙ address-other geo.order at k v n img ne

  -- as the roots have it
  pub stored-roots : (top : ℕ → ℕ) → v ≤ 1073741824 → k < 15 → at + 256 ≤ length img → (n : ℕ) → address_at geo.order at n img ≡ top n → address_at geo.order at n (apply (record_store geo at k v held) img) ≡ with_root top k v n
  stored-roots top small l w n e = go (ℕ_discrete n k)
    where
      go : Dec (n ≡ k) → address_at geo.order at n (apply (record_store geo at k v held) img) ≡ pick (eqb n k) v (top n)
      go (yes h) = rw (eq-eqb n k h) (ap (λ (x : ℕ). address_at geo.order at x (apply (record_store geo at k v held) img)) h ∙ stored_there small l w)
      go (no h) = rw (ne_eqb n k h) (stored-beside n h ∙ e)

module _ (geo : Geometry) (size at : ℕ) (t : InTable geo at) where
  -- steps that store nothing into the record leave its addresses
  pub roots-stay : {c : Pos} {v : ℕ} {top above : ℕ → ℕ} {x y : List ℕ} → Frame geo x → Own geo size top x → Moved Nothing geo size c v top x above y → (n : ℕ) → n < 15 → address_at geo.order at n y ≡ address_at geo.order at n x
  unfolding address_at
  roots-stay {c} {v} {top} {above} {x} {y} fr own m n l = kept-but-num m.bytes 8 (at + 112 + n * 8) (λ j r q. not j (omega (arith, r.0), omega (arith, r.1, l)) q) geo.order
    where
      not : (j : ℕ) → Range at 256 j → StepByte Nothing geo size top x j → ⊥
      not j r (of_books b) = table-books geo x fr at t r b
      not j r (of_lists (of_free f)) = free-table geo x fr at t f r
      not j r (of_lists (of_list d k p)) = claim-table geo size top x fr own d j p at t r
      not j r (of_more z) = z

  -- the roots are those of the record
  pub as-stored : {R : ℕ → Type 0} {c : Pos} {v : ℕ} {top above : ℕ → ℕ} {x y : List ℕ} → Valid geo c → Moved R geo size c v top x above y → ((n : ℕ) → n < 15 → address_at geo.order at n y ≡ above n) → Moved R geo size c v top x (addresses geo at y) y
  as-stored {R} {c} {v} {top} {above} {x} {y} w m e =
      moved-trans geo size c m
      (else-moved geo size above (addresses geo at y) y y m.steady.frame e Nothing (kept-but-refl Nothing y) (λ c j l p q. q) R m.own (steady-refl geo y m.steady.frame) (λ j f. f) (kept-but-refl _ y) c w m.here)

  -- a store into the record moves nothing
  pub record-moved : {top : ℕ → ℕ} {x : List ℕ} → Frame geo x → Own geo size top x → {R : ℕ → Type 0} → ((j : ℕ) → R j → Range at 256 j) → (s : Store) → StoreIn R s → {c : Pos} → Valid geo c → {v : ℕ} → node_at geo x top c ≡ v → Moved R geo size c v top x top (apply s x)
  record-moved {top} {x} fr own {R} sub s p {c} w e =
      let o = store-more sub p in
      let u = record_steady geo x fr at t s o in
      else-moved geo size top top x (apply s x) fr (λ k l. refl) (Range at 256) (kept-but-store o x) (λ d j l p r. claim-table geo size top x fr own d j p at t r) R own u
      (λ j f. free-elsewhere geo u (kept-but-store o x) (λ j r b. table-books geo x fr at t r b) f) (kept-but-more (λ j r. of_more r) (kept-but-store p x)) c w e

  pub table-inside : (x : List ℕ) → Frame geo x → at + 256 ≤ length x
  table-inside x fr = let s = spots geo x fr t.group t.one in let h = t.last in omega (arith, h)

  pub record-fewer : (x : List ℕ) → Frame geo x → (s : Store) → StoreIn (Range at 256) s → (j : ℕ) → Free geo (apply s x) j → Free geo x j
  record-fewer x fr s o j f = free-elsewhere geo (record_steady geo x fr at t s o) (kept-but-store o x) (λ j r b. table-books geo x fr at t r b) f

  module _ (x : List ℕ) (fr : Frame geo x) (own : Own geo size (addresses geo at x) x) (a : ℕ) (spare : Spare geo size (addresses geo at x) x a) (r held : ℕ) (lr : r < 15) where
    root-valid : Valid geo (pos r 0 0)
    root-valid = record { root = lr; depth = omega arith; slot = rw (pow-zero (per_list geo)) (omega arith) }

    -- ---- a direct block

    direct-moved : levels r ≡ 0 → address_at geo.order at r x ≡ 0
        → Moved (Tail at) geo size (pos r 0 0) a (addresses geo at x) x (addresses geo at (apply (record_store geo at r a held) x)) (apply (record_store geo at r a held) x)
    direct-moved z e =
        let s = record_store geo at r a held in
        let o = record_in_lem geo at r a held lr in
        let u = record_steady geo x fr at t s o in
        as-stored root-valid
        (root-data (Tail at) geo size (addresses geo at x) x (apply s x) fr own r a lr e (Range at 256) (kept-but-store o x) (λ d j l p q. claim-table geo size (addresses geo at x) x fr own d j p at t q)
        (kept-but-more (λ j q. of_more q) (kept-but-store (record_tail geo at r a held lr) x)) u (record-fewer x fr s o) (run-moves geo (steady-refl geo x fr) u a geo.frag spare.run) spare.unclaimed
        (λ j f q. spare.taken (record-fewer x fr s o j f) q) (λ l. absurd (let y : ⊥ = omega (arith, l, z) in y)) (sym z))
        (λ n l. stored-roots geo at r a held x (addresses geo at x) (run-small geo x fr a geo.frag spare.run) lr (table-inside x fr) n refl)

    -- ---- under a root

    module _ (l k : ℕ) (deep : suc l ≡ levels r) (rest : k < per_list geo ^ (l + 1)) (there : Valid geo (pos r (suc l) k)) (hole : node_at geo x (addresses geo at x) (pos r (suc l) k) ≡ 0) where
      abbrev c : Pos
      c = pos r (suc l) k

      target : c ≡ pos r (levels r) (0 * per_list geo ^ (l + 1) + k)
      target = ap (λ (n : ℕ). pos r n k) deep ∙ ap (pos r (levels r)) (let z = zero-mul (per_list geo ^ (l + 1)) in omega (arith, z))

      pub old-way : (address_at geo.order at r x ≡ 0 → ⊥) → Way geo size (addresses geo at x) c a x l r 0 0 k
      old-way n =
          let top = addresses geo at x in
          record { frame = fr; own = own; valid = root-valid; deep = omega (arith, deep); live = λ z. n (sym (node-top geo x (top r) 0) ∙ z); rest = rest; target = target; hole = hole; spare = spare; there = there }

      old-moved : (address_at geo.order at r x ≡ 0 → ⊥) → {u : Unit {0}} → (set_in geo l (address_at geo.order at r x) k a x).out ≡ got u
          → Moved (Tail at) geo size c a (addresses geo at x) x (addresses geo at (apply_all (set_in geo l (address_at geo.order at r x) k a x).stores x)) (apply_all (set_in geo l (address_at geo.order at r x) k a x).stores x)
      old-moved n {u} o =
          let top = addresses geo at x in
          let e = node-top geo x (top r) 0 in
          let m = subst (λ (b : ℕ). Moved Nothing geo size c a top x top (apply_all (set_in geo l b k a x).stores x)) e (set-moved geo size top c a l x r 0 0 k (old-way n) (subst (λ (b : ℕ). (set_in geo l b k a x).out ≡ got u) (sym e) o)) in
          as-stored there (moved_more geo size c (λ j z. absurd z) m) (λ i b. roots-stay fr own m i b)

      module _ (empty : address_at geo.order at r x ≡ 0) {e : ℕ} (g : (give_zeroed geo x).out ≡ got e) where
        abbrev mid : List ℕ
        mid = apply_all (give_zeroed geo x).stores x

        abbrev tops : ℕ → ℕ
        tops = with_root (addresses geo at x) r e

        given : Fresh geo x mid e
        given = zeroed-fresh geo x fr g

        -- the root given out counts as the record's, though it is stored last
        pub given-moved : Moved Nothing geo size c 0 (addresses geo at x) x tops mid
        given-moved =
            let f = given in
            root-list Nothing geo size (addresses geo at x) x mid fr own r e lr empty (λ j. Book geo x j ⊎ Free geo x j) f.kept
            (λ d j l p q. ⊎_elim (λ b. claim-books geo size (addresses geo at x) x fr own d j p b) (λ b. own.used d j p b) q)
            (kept-but-more (λ j q. ⊎_elim (λ b. of_books b) (λ b. of_lists (of_free b)) q) f.kept) f.steady f.fewer f.born
            (fresh-unclaimed geo size (addresses geo at x) x mid fr own e f) f.taken (λ _. zeroed-blank geo x fr g) (omega (arith, deep)) c there deep hole f.free

        top-is : tops r ≡ e
        top-is = rw (eq-eqb r r refl) refl

        pub new-node : node geo mid (tops r) 0 0 ≡ e
        new-node = node-top geo mid (tops r) 0 ∙ top-is

        pub new-way : Way geo size tops c a mid l r 0 0 k
        new-way =
            let m = given-moved in
            record {
              frame = m.steady.frame;
              own = m.own;
              valid = root-valid;
              deep = omega (arith, deep);
              live = λ z. run-some geo mid m.steady.frame e geo.frag given.born (frag-some geo.frag fr.sizes.frag) (sym new-node ∙ z);
              rest = rest;
              target = target;
              hole = m.here;
              spare = spare-moved geo size c a fr m spare;
              there = there;
            }

        below-moved : {u : Unit {0}} → (set_in geo l e k a mid).out ≡ got u → Moved Nothing geo size c a tops mid tops (apply_all (set_in geo l e k a mid).stores mid)
        below-moved {u} o =
            subst (λ (b : ℕ). Moved Nothing geo size c a tops mid tops (apply_all (set_in geo l b k a mid).stores mid)) new-node (set-moved geo size tops c a l mid r 0 0 k new-way (subst (λ (b : ℕ). (set_in geo l b k a mid).out ≡ got u) (sym new-node) o))

        new-moved : {u : Unit {0}} → (set_in geo l e k a mid).out ≡ got u
            → Moved (Tail at) geo size c a (addresses geo at x) x (addresses geo at (apply (record_store geo at r e held) (apply_all (set_in geo l e k a mid).stores mid))) (apply (record_store geo at r e held) (apply_all (set_in geo l e k a mid).stores mid))
        new-moved o =
            let m = moved-trans geo size c given-moved (below-moved o) in
            let y = apply_all (set_in geo l e k a mid).stores mid in
            let fy = m.steady.frame in
            let wide = moved_more geo size c (λ j z. absurd z) m in
            let last = record-moved fy m.own (λ j q. tail_record at q) (record_store geo at r e held) (record_tail geo at r e held lr) there m.here in
            as-stored there (moved-trans geo size c wide last)
            (λ n b. stored-roots geo at r e held y (addresses geo at x) (run-small geo mid given.steady.frame e geo.frag given.born) lr (table-inside y fy) n (roots-stay fr own m n b))

        -- as the call leaves it
        root-moved : {u : Unit {0}} → (set_root geo at r l k a held x).out ≡ got u → Moved (Tail at) geo size c a (addresses geo at x) x (addresses geo at (apply_all (set_root geo at r l k a held x).stores x)) (apply_all (set_root geo at r l k a held x).stores x)
        unfolding set_root
        root-moved {u} o =
            let first = through (give_zeroed geo) (λ e. set_in geo l e k a >>= (λ _. store (record_store geo at r e held))) x o in
            let same : first.mid ≡ e = (let q : got first.mid ≡ got e = sym first.first ∙ g in cc) in
            let rest : ((set_in geo l e k a >>= (λ _. store (record_store geo at r e held))) mid).out ≡ got u = subst (λ (e : ℕ). ((set_in geo l e k a >>= (λ _. store (record_store geo at r e held))) mid).out ≡ got u) same first.second in
            let second = through (set_in geo l e k a) (λ _. store (record_store geo at r e held)) mid rest in
            let y = apply_all (set_in geo l e k a mid).stores mid in
            subst (λ (z : List ℕ). Moved (Tail at) geo size c a (addresses geo at x) x (addresses geo at z) z)
            (sym
            (bind_image (give_zeroed geo) (λ e. set_in geo l e k a >>= (λ _. store (record_store geo at r e held))) x g
            ∙ bind_image (set_in geo l e k a) (λ _. store (record_store geo at r e held)) mid second.first
            ∙ ap (λ (ss : List Store). apply_all ss y) (stores-store (record_store geo at r e held) y) ∙ apply_all-one (record_store geo at r e held) y))
            (new-moved second.first)

      root-given : address_at geo.order at r x ≡ 0 → {u : Unit {0}} → (set_root geo at r l k a held x).out ≡ got u
          → Moved (Tail at) geo size c a (addresses geo at x) x (addresses geo at (apply_all (set_root geo at r l k a held x).stores x)) (apply_all (set_root geo at r l k a held x).stores x)
      unfolding set_root
      root-given empty o = root-moved empty (through (give_zeroed geo) (λ e. set_in geo l e k a >>= (λ _. store (record_store geo at r e held))) x o).first o

    -- ---- under an address of the record

    Done : ℕ → ℕ → List ℕ → Type 0
    Done level k y = Moved (Tail at) geo size (pos r level k) a (addresses geo at x) x (addresses geo at y) y

    pub under_moved : (level k : ℕ) → level ≡ levels r → (level ≡ 0 → k ≡ 0) → Valid geo (pos r level k) → node_at geo x (addresses geo at x) (pos r level k) ≡ 0
        → {u : Unit {0}} → (set_under geo at r level k a held x).out ≡ got u → Moved (Tail at) geo size (pos r level k) a (addresses geo at x) x (addresses geo at (apply_all (set_under geo at r level k a held x).stores x)) (apply_all (set_under geo at r level k a held x).stores x)
    unfolding set_under Done choose
    under_moved zero k e z v n {u} o =
        let s = record_store geo at r a held in
        subst (Done 0 k) (sym (ap (λ (ss : List Store). apply_all ss x) (stores-store s x) ∙ apply_all-one s x))
        (subst (λ (k : ℕ). Done 0 k (apply s x)) (sym (z refl)) (direct-moved (sym e) (sym (node-top geo x (address_at geo.order at r x) k) ∙ n)))
    under_moved (suc l) k e z v n {u} o = go (eqb (address_at geo.order at r x) 0) refl o
      where
        rest : k < per_list geo ^ (l + 1)
        rest = let up : l + 1 ≡ suc l = omega arith in rw up v.slot

        go : (b : Bool) → eqb (address_at geo.order at r x) 0 ≡ b → (choose b (set_root geo at r l k a held) (set_in geo l (address_at geo.order at r x) k a) x).out ≡ got u
            → Done (suc l) k (apply_all (choose b (set_root geo at r l k a held) (set_in geo l (address_at geo.order at r x) k a) x).stores x)
        go true h o = root-given l k e rest v n (eqb-true _ 0 h) o
        go false h o = old-moved l k e rest v n (eqb-false _ 0 h) o
