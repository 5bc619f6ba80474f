-- Writing to a file whose blocks are its own, cut after any store or refused, changes nothing but maps and counts, the record, what was free and the file's own blocks. Assumes nothing.
use Rattle.std.specs.Prelude.{Option, Some}
use mathlib.Core.Path.{◌≡◌, refl, sym, subst}
use mathlib.Core.List.{List}
use mathlib.Core.Logic.{⊎_elim}
use Prim.Native.Nat.{ℕ, zero, suc, ◌+◌, ◌-◌, ◌*◌, ◌/◌, ◌^◌, ◌≤◌, ◌<◌, min}
use native.Mathlib.Nat.{div-mul-le_self, le_refl, le-div_iff_mul-le}
use native.Mathlib.Omega.{arith}
use native.Mathlib.Decide.{ℕ_discrete}
use lib.ListN.{length}
use Rattle.field.specs.Field.{part}
use lib.Dec.{eqb}
use borrow.Author.Tests.{eqb-true, eqb-false}
use Rattle.refusal.specs.declared.Refusal.TheVariants.{Damaged}
use Rattle.store.specs.Store.{apply_all}
use Rattle.store.specs.Where.{KeptBut}
use Rattle.store.specs.Act.{Out, got, refused, Act, pure, store, ◌>>=◌, choose, each, Always}
use Rattle.store.proofs.AlwaysLaws.{always-all, always-bind, always-pure, always-refuse, always-store, always-store-bind, always-choose, always_more}
use Rattle.store.proofs.OnlyLaws.{kept-but-refl, kept-but_trans, kept-but-more, kept-but-store}
use Rattle.volume.specs.declared.Geometry.{Geometry}
use Rattle.frame.specs.Frame.{Frame}
use Rattle.inode.specs.Size.{held_at}
use Rattle.inode.specs.Shape.{address_at}
use Rattle.mapping.specs.declared.Place.{Place}
use Rattle.mapping.specs.declared.Place.TheVariants as Place
use Rattle.mapping.specs.Zones.{place_of}
use Rattle.mapping.specs.Mapping.{per_list}
use Rattle.inode_run.specs.declared.Run.{Run}
use Rattle.inode_run.specs.Run.{run_at}
use Rattle.inode_read.specs.Read.{past_last}
use Rattle.inode_read.proofs.ReachLaws.{Covers, held-covers}
use Rattle.balloc_give.specs.Give.{give_block, give_zeroed}
use Rattle.books.specs.Books.{Steady}
use Rattle.books.specs.Work.{given}
use Rattle.inode_setblock.specs.Set.{InTable, record_store, set_in, set_root, set_under, set_at, set_block}
use Rattle.inode_setblock.proofs.SetKeeps.{always_reads}
use Rattle.inode_write.specs.Write.{piece_store, fresh_store, held_more, fill_given, fill_hole, write_run, write_block, piece_at, write_turn, write_blocks}
use Rattle.touched_write.proofs.SetStores.{record_in_lem}
use Rattle.touched_write.proofs.WriteStores.{fresh_in, piece_in}
use Rattle.written.specs.Own.{Pos, levels, Valid, node_at, addresses, bytes_of, Own, FileByte, of_books, of_record, of_free, of_claim}
use Rattle.written.proofs.NodeLaws.{pos, node-top}
use Rattle.written.proofs.MoveLaws.{held-most, StepByte, Spare, step_back}
use Rattle.written.proofs.MoveLaws as Move
use Rattle.written.proofs.LinkLaws.{Nothing}
use Rattle.written.proofs.RootOwn.{old-way, given-moved, new-node, new-way}
use Rattle.written.proofs.MapOwn.{Indexed, indexed, run-hole, run-there, run_past}
use Rattle.written.proofs.TouchLaws.{Touched, touched-back, moved-touched}
use Rattle.written.proofs.BlockOwn.{claimed}
use Rattle.written.proofs.TurnOwn.{fresh, given-spare}
use Rattle.written.proofs.TurnOwn as Turn
use Rattle.written.proofs.LoopOwn.{piece-some, piece-fits, piece_inside, turn-turned}
use Rattle.written.proofs.SetWithin.{give-within, zeroed-within, set-within}

-- what a step may change is such a byte
step_file : (geo : Geometry) (size at : ℕ) (x : List ℕ) (j : ℕ) → StepByte Nothing geo size (addresses geo at x) x j → FileByte geo size at x j
step_file geo size at x j (Move.of_books b) = of_books b
step_file geo size at x j (Move.of_lists (Move.of_free f)) = of_free f
step_file geo size at x j (Move.of_lists (Move.of_list c l p)) = of_claim c p
step_file geo size at x j (Move.of_more r) = absurd r

module _ (geo : Geometry) (size at : ℕ) (t : InTable geo at) where
  -- of the image x, at every cut
  abbrev pub Within : {A : Type 0} → List ℕ → Act A → List ℕ → Type 0
  Within x m y = Always (KeptBut (FileByte geo size at x) x) m y

  into-record : (x y : List ℕ) → KeptBut (FileByte geo size at x) x y → (r a held : ℕ) → r < 15 → Within x (store (record_store geo at r a held)) y
  into-record x y k r a held l = always-store (record_store geo at r a held) k (kept-but_trans k (kept-but-more (λ j q. of_record q) (kept-but-store (record_in_lem geo at r a held l) y)))

  -- ---- under an address of the record

  module _ (x : List ℕ) (fr : Frame geo x) (own : Own geo size (addresses geo at x) x) (a : ℕ) (spare : Spare geo size (addresses geo at x) x a) (r held : ℕ) (lr : r < 15) where
    module _ (l k : ℕ) (deep : suc l ≡ levels r) (rest : k < per_list geo ^ (l + 1)) (there : Valid geo (pos r (suc l) k)) (hole : node_at geo x (addresses geo at x) (pos r (suc l) k) ≡ 0) where
      old-within : (address_at geo.order at r x ≡ 0 → ⊥) → Within x (set_in geo l (address_at geo.order at r x) k a) x
      old-within n =
          let top = addresses geo at x in
          let w = old-way geo size at t x fr own a spare r held lr l k deep rest there hole n in
          subst (λ (b : ℕ). Within x (set_in geo l b k a) x) (node-top geo x (top r) 0)
          (always_more (λ y q. kept-but-more (step_file geo size at x) q) (set-within geo size top (pos r (suc l) k) a l x r 0 0 k w))

      root-within : address_at geo.order at r x ≡ 0 → Within x (set_root geo at r l k a held) x
      unfolding set_root
      root-within empty =
          let z = always_more (λ y q. kept-but-more (λ j o. ⊎_elim (λ b. of_books b) (λ f. of_free f) o) q) (zeroed-within geo x fr) in
          always-bind z
          (λ e g.
          let mid = apply_all (give_zeroed geo x).stores x in
          let c = pos r (suc l) k in
          let m = given-moved geo size at t x fr own a spare r held lr l k deep rest there hole empty g in
          let w = new-way geo size at t x fr own a spare r held lr l k deep rest there hole empty g in
          let is = new-node geo size at t x fr own a spare r held lr l k deep rest there hole empty g in
          let s = always_more (λ y q. kept-but_trans (kept-but-more (step_file geo size at x) m.bytes) (kept-but-more (λ j b. step_file geo size at x j (step_back geo size c m j b)) q)) (set-within geo size _ c a l mid r 0 0 k w) in
          let d = subst (λ (b : ℕ). Within x (set_in geo l b k a) mid) is s in
          always-bind d (λ _ _. into-record x _ (always-all d) r e held lr))

    under-within : (level k : ℕ) → level ≡ levels r → Valid geo (pos r level k) → node_at geo x (addresses geo at x) (pos r level k) ≡ 0 → Within x (set_under geo at r level k a held) x
    unfolding set_under
    under-within zero k e v n = into-record x x (kept-but-refl _ x) r a held lr
    under-within (suc l) k e v n =
        always_reads (λ y. choose (eqb (address_at geo.order at r y) 0) (set_root geo at r l k a held) (set_in geo l (address_at geo.order at r y) k a))
        (always-choose (eqb (address_at geo.order at r x) 0) (λ h. root-within l k e rest v n (eqb-true _ 0 h)) (λ h. old-within l k e rest v n (eqb-false _ 0 h)))
      where
        rest : k < per_list geo ^ (l + 1)
        rest = let up : l + 1 ≡ suc l = omega arith in rw up v.slot

  -- of an index that is a hole
  pub index-within : (x : List ℕ) → Frame geo x → Own geo size (addresses geo at x) x → (a : ℕ) → Spare geo size (addresses geo at x) x a → (i : ℕ) (c : Pos) → Indexed geo i c → node_at geo x (addresses geo at x) c ≡ 0
      → (held : ℕ) → Within x (set_block geo at i a held) x
  unfolding set_block
  index-within x fr own a spare i c p hole held =
      subst (λ (w : Place). Within x (set_at geo at a held w) x) p.place (under-within x fr own a spare c.root held p.valid.root c.depth c.slot p.leaf p.valid hole)

  -- ---- one block

  -- on from what a finished step left
  pub on-from : {A : Type 0} {m : Act A} {x y : List ℕ} → Steady geo x y → Touched geo size at x y → Within y m y → Within x m y
  on-from s p q = always_more (λ z k. kept-but_trans p.bytes (kept-but-more (touched-back geo size at s p) k)) q

  given-within : {A B : Type 0} (o : Out A) (f : A → Act B) {x y : List ℕ} → KeptBut (FileByte geo size at x) x y → ((a : A) → Within x (f a) y) → Within x (given o f) y
  given-within (got a) f k q = q a
  given-within {B = B} (refused e) f k q = always-refuse B e k

  module _ (x : List ℕ) (fr : Frame geo x) (own : Own geo size (addresses geo at x) x) (i : ℕ) (c : Pos) (p : Indexed geo i c) (n : ℕ) (h : held_at geo size i ≡ Some n)
      (from : ℕ) (bytes : List ℕ) (some : 0 < length bytes) (fits : from + length bytes ≤ n) (most : n ≤ geo.bsize) where
    hole-within : node_at geo x (addresses geo at x) c ≡ 0 → (held : ℕ) → Within x (fill_hole geo at i n from bytes held) x
    unfolding fill_hole fill_given
    hole-within hole held =
        let g = always_more (λ y q. kept-but-more (λ j o. ⊎_elim (λ b. of_books b) (λ f. of_free f) o) q) (give-within geo x fr) in
        always-bind g
        (λ a e.
        let y = apply_all (give_block geo x).stores x in
        let m = Turn.given-moved geo size at t x fr own i c p n h from bytes some fits most hole e in
        let spare = given-spare geo size at t x fr own i c p n h from bytes some fits most hole e in
        let free = (fresh geo size at t x fr own i c p n h from bytes some fits most hole e).free in
        let o = fresh_in geo a n from bytes most (omega (arith, fits, most)) in
        let touched = moved-touched geo size at m (λ j z. absurd z) (λ j q. absurd (q.live m.here)) in
        given-within (held_more geo held) (λ k. set_block geo at i a k >>= (λ _. store (fresh_store geo a n from bytes) >>= (λ _. pure k))) (always-all g)
        (λ k. let s = on-from m.steady touched (index-within y m.steady.frame m.own a spare i c p m.here k) in
        always-bind s
        (λ _ _. let d = always-all s in
        always-store-bind (fresh_store geo a n from bytes) (λ _. pure k) d (always-pure k (kept-but_trans d (kept-but-more (λ j r. of_free (free j r)) (kept-but-store o _)))))))

    piece-within : (node_at geo x (addresses geo at x) c ≡ 0 → ⊥) → (held : ℕ) → Within x (store (piece_store geo (node_at geo x (addresses geo at x) c) from bytes) >>= (λ _. pure held)) x
    piece-within live held =
        let s = piece_store geo (node_at geo x (addresses geo at x) c) from bytes in
        let o = piece_in geo (node_at geo x (addresses geo at x) c) n from bytes fits in
        always-store-bind s (λ _. pure held) (kept-but-refl _ x) (always-pure held (kept-but-more (λ j r. of_claim c (claimed geo size at t x fr own i c p n h live (omega (arith, some, fits)) j r)) (kept-but-store o x)))

  pub block_within : (x : List ℕ) → Frame geo x → Own geo size (addresses geo at x) x → (i from : ℕ) (bytes : List ℕ) → 0 < length bytes → from + length bytes ≤ geo.bsize → i * geo.bsize + (from + length bytes) ≤ size
      → (held : ℕ) → Within x (write_block geo at size i from bytes held) x
  unfolding write_block
  block_within x fr own i from bytes some room inside held = always_reads (λ y. write_run geo at i from bytes held (run_at geo at size y i)) (go (place_of (per_list geo) i) refl)
    where
      cover : Covers geo size i (from + length bytes)
      cover = held-covers geo fr.sizes size i (from + length bytes) (omega arith) room inside

      most : cover.held ≤ geo.bsize
      most = subst (λ (h : Option ℕ). bytes_of h ≤ geo.bsize) cover.is (held-most geo fr.sizes size i)

      by : (c : Pos) → Indexed geo i c → Dec (node_at geo x (addresses geo at x) c ≡ 0) → Within x (write_run geo at i from bytes held (run_at geo at size x i)) x
      by c p (yes z) =
          subst (λ (r : Run). Within x (write_run geo at i from bytes held r) x) (sym (run-hole geo size at x fr own i c p cover.held cover.is z)) (hole-within x fr own i c p cover.held cover.is from bytes some cover.far most z held)
      by c p (no l) =
          subst (λ (r : Run). Within x (write_run geo at i from bytes held r) x) (sym (run-there geo size at x fr own i c p cover.held cover.is l (omega (arith, some, cover.far))))
          (piece-within x fr own i c p cover.held cover.is from bytes some cover.far most l held)

      go : (w : Place) → place_of (per_list geo) i ≡ w → Within x (write_run geo at i from bytes held (run_at geo at size x i)) x
      go (Place.Under root level rest) e = by (pos root level rest.0) (indexed geo i root level rest (sym e)) (ℕ_discrete (node_at geo x (addresses geo at x) (pos root level rest.0)) 0)
      go Place.Past e = subst (λ (r : Run). Within x (write_run geo at i from bytes held r) x) (sym (run_past geo size at x fr own i (sym e) cover.held cover.is)) (always-refuse ℕ Damaged (kept-but-refl _ x))

  -- ---- all blocks

  module _ (off : ℕ) (buf : List ℕ) (some : 0 < length buf) (fits : off + length buf ≤ size) where
    turn-within : (b : 0 < geo.bsize) (i : ℕ) (lo : off / geo.bsize ≤ i) (hi : i < past_last geo off (length buf)) (x : List ℕ) → Frame geo x → Own geo size (addresses geo at x) x → (h : ℕ) → Within x (write_turn geo at size off buf i h) x
    unfolding piece_at
    turn-within b i lo hi x fr own h =
        block_within x fr own i (off - i * geo.bsize) (part (min (geo.bsize - (off - i * geo.bsize)) (length buf - (i * geo.bsize - off))) (i * geo.bsize - off) buf)
        (piece-some geo size at t off buf some fits b i lo hi) (piece-fits geo size at t off buf some fits b i lo hi) (piece_inside geo size at t off buf some fits b i lo hi) h

    rest-within : (b : 0 < geo.bsize) (m i h : ℕ) (x : List ℕ) → Frame geo x → Own geo size (addresses geo at x) x → off / geo.bsize ≤ i → i + m ≤ past_last geo off (length buf) → Within x (each (write_turn geo at size off buf) m i h) x
    unfolding each
    rest-within b zero i h x fr own lo hi = always-pure h (kept-but-refl _ x)
    rest-within b (suc m) i h x fr own lo hi =
        let one = turn-within b i lo (omega arith) x fr own h in
        always-bind one
        (λ k o. let d = turn-turned geo size at t off buf some fits b i lo (omega arith) fr own h o in
        on-from d.steady d.touched (rest-within b m (i + 1) k (apply_all (write_turn geo at size off buf i h x).stores x) d.steady.frame d.own (omega arith) (omega arith)))

    pub blocks-within : (b : 0 < geo.bsize) (x : List ℕ) → Frame geo x → Own geo size (addresses geo at x) x → (h : ℕ) → Within x (write_blocks geo at size off buf h) x
    unfolding write_blocks
    blocks-within b x fr own h =
        let l : off / geo.bsize ≤ (off + length buf - 1) / geo.bsize = (le-div_iff_mul-le {k = geo.bsize} b).1 (omega (arith, div-mul-le_self off geo.bsize, some)) in
        let m : off / geo.bsize ≤ past_last geo off (length buf) = omega (arith, l) in
        rest-within b (past_last geo off (length buf) - off / geo.bsize) (off / geo.bsize) h x fr own (le_refl (off / geo.bsize)) (omega (arith, m))
