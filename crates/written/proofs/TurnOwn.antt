-- One block of a write, finished: its bytes are the file's there, the file's other bytes are as they were, and its blocks are still its own. Assumes nothing.
use Rattle.std.specs.Prelude.{Option, Some}
use mathlib.Core.Path.{◌≡◌, refl, sym, ap, subst, ◌∙◌}
use mathlib.Core.List.{List}
use Prim.Native.Nat.{ℕ, zero, ◌+◌, ◌*◌, ◌≤◌, ◌<◌}
use native.Mathlib.Omega.{arith}
use native.Mathlib.Decide.{ℕ_discrete}
use lib.ListN.{length}
use Rattle.refusal.specs.declared.Refusal.TheVariants.{Damaged}
use Rattle.store.specs.Store.{Store, apply, apply_all}
use Rattle.store.specs.Act.{Out, got, refused, pure, store, ◌>>=◌}
use Rattle.store.proofs.StoreLaws.{apply_all-none, apply_all-one}
use Rattle.store.proofs.ActLaws.{through, stores-pure, stores-store, refuse-out}
use Rattle.store.proofs.OnlyLaws.{kept-but-refl}
use Rattle.volume.specs.declared.Geometry.{Geometry}
use Rattle.frame.specs.Frame.{Frame}
use Rattle.bits.proofs.BitsLaws.{frag-some}
use Rattle.inode.specs.Size.{held_at}
use Rattle.mapping.specs.declared.Place.{Place}
use Rattle.mapping.specs.declared.Place.TheVariants as Place
use Rattle.mapping.specs.Zones.{place_of}
use Rattle.mapping.specs.Mapping.{per_list}
use Rattle.inode_run.specs.declared.Run.{Run}
use Rattle.inode_run.specs.declared.Run.TheVariants as Run
use Rattle.inode_run.specs.Run.{run_at}
use Rattle.inode_read.proofs.ReachLaws.{Covers, held-covers}
use Rattle.balloc_give.specs.Give.{give_block}
use Rattle.books.specs.Work.{given}
use Rattle.books.proofs.SteadyLaws.{steady-refl}
use Rattle.inode_setblock.specs.Set.{InTable, set_at, set_block}
use Rattle.inode_write.specs.Write.{piece_store, fresh_store, held_more, fill_given, fill_hole, write_run, write_block}
use Rattle.written.specs.Own.{Pos, node_at, addresses, bytes_of, Own}
use Rattle.written.proofs.NodeLaws.{pos}
use Rattle.written.proofs.MoveLaws.{held-most, Moved, moved-trans, moved_more, Spare, spare-moved}
use Rattle.written.proofs.ClaimLaws.{run-some}
use Rattle.written.proofs.LinkLaws.{Nothing, else-moved}
use Rattle.written.proofs.GivenOwn.{Fresh, give-fresh, fresh-moved, fresh-spare}
use Rattle.written.proofs.SetOwn.{bind_image}
use Rattle.written.proofs.RootOwn.{Tail, roots-stay, as-stored, under_moved}
use Rattle.written.proofs.IndexLaws.{place_level}
use Rattle.written.proofs.MapOwn.{Indexed, indexed, run-hole, run-there, run_past}
use Rattle.written.proofs.PutOwn.{Put, Turned, put-turned}
use Rattle.written.proofs.BlockOwn.{piece-put, fresh-put}

-- one store, and then an answer
store-image : {A : Type 0} (s : Store) (a : A) (img : List ℕ) → apply_all ((store s >>= (λ _. pure a)) img).stores img ≡ apply s img
unfolding store
store-image s a img =
    bind_image (store s) (λ _. pure a) img {a = tt {0}} refl
    ∙ ap (λ (ss : List Store). apply_all ss (apply_all (store s img).stores img)) (stores-pure a (apply_all (store s img).stores img))
    ∙ apply_all-none (apply_all (store s img).stores img) ∙ ap (λ (ss : List Store). apply_all ss img) (stores-store s img) ∙ apply_all-one s img

module _ (geo : Geometry) (size at : ℕ) (t : InTable geo at) where
  -- setting the address of an index that is a hole
  pub index-moved : (x : List ℕ) → Frame geo x → Own geo size (addresses geo at x) x → (a : ℕ) → Spare geo size (addresses geo at x) x a → (i : ℕ) (c : Pos) → Indexed geo i c → node_at geo x (addresses geo at x) c ≡ 0
      → (held : ℕ) {u : Unit {0}} → (set_block geo at i a held x).out ≡ got u
      → Moved (Tail at) geo size c a (addresses geo at x) x (addresses geo at (apply_all (set_block geo at i a held x).stores x)) (apply_all (set_block geo at i a held x).stores x)
  unfolding set_block
  index-moved x fr own a spare i c p hole held {u} o =
      let zero = (place_level (per_list geo) i c.root c.depth p.place).2 in
      let m = under_moved geo size at t x fr own a spare c.root held p.valid.root c.depth c.slot p.leaf zero p.valid hole
      (subst (λ (w : Place). (set_at geo at a held w x).out ≡ got u) (sym p.place) o) in
      subst (λ (w : Place). Moved (Tail at) geo size c a (addresses geo at x) x (addresses geo at (apply_all (set_at geo at a held w x).stores x)) (apply_all (set_at geo at a held w x).stores x)) p.place m

  module _ (x : List ℕ) (fr : Frame geo x) (own : Own geo size (addresses geo at x) x) (i : ℕ) (c : Pos) (p : Indexed geo i c) (n : ℕ) (h : held_at geo size i ≡ Some n)
      (from : ℕ) (bytes : List ℕ) (some : 0 < length bytes) (fits : from + length bytes ≤ n) (most : n ≤ geo.bsize) where
    -- ---- a hole

    module _ (hole : node_at geo x (addresses geo at x) c ≡ 0) {a : ℕ} (g : (give_block geo x).out ≡ got a) where
      abbrev y : List ℕ
      y = apply_all (give_block geo x).stores x

      pub fresh : Fresh geo x y a
      fresh = give-fresh geo x fr g

      pub given-moved : Moved Nothing geo size c 0 (addresses geo at x) x (addresses geo at y) y
      given-moved =
          let m = fresh-moved geo size (addresses geo at x) x y fr own a fresh c p.valid hole in
          as-stored geo size at t p.valid m (λ k l. roots-stay geo size at t fr own m k l)

      pub given-spare : Spare geo size (addresses geo at y) y a
      given-spare =
          let m = fresh-moved geo size (addresses geo at x) x y fr own a fresh c p.valid hole in
          let fy = m.steady.frame in
          spare-moved geo size c a fy
          (else-moved geo size (addresses geo at x) (addresses geo at y) y y fy (λ k l. roots-stay geo size at t fr own m k l) Nothing (kept-but-refl Nothing y) (λ c j l p q. q) Nothing m.own (steady-refl geo y fy) (λ j f. f) (kept-but-refl _ y) c p.valid m.here)
          (fresh-spare geo size (addresses geo at x) x y fr own a fresh)

      given-put : (held : ℕ) {u : Unit {0}} → (set_block geo at i a held y).out ≡ got u → Put geo size at c n from bytes x (apply (fresh_store geo a n from bytes) (apply_all (set_block geo at i a held y).stores y))
      given-put held o =
          let m = given-moved in
          let q = index-moved y m.steady.frame m.own a given-spare i c p m.here held o in
          fresh-put geo size at t x (apply_all (set_block geo at i a held y).stores y) fr own i c p n h (omega arith) a hole
          (moved-trans geo size c (moved_more geo size c (λ j z. absurd z) m) q)
          (run-some geo y m.steady.frame a geo.frag fresh.born (frag-some geo.frag fr.sizes.frag)) fresh.free from bytes fits

      filled : (held : ℕ) {k : ℕ} → (fill_given geo at i n from bytes held a y).out ≡ got k → Put geo size at c n from bytes x (apply_all (fill_given geo at i n from bytes held a y).stores y)
      unfolding fill_given
      filled held {k} o = go (held_more geo held) o
        where
          go : (w : Out ℕ) → (given w (λ m. set_block geo at i a m >>= (λ _. store (fresh_store geo a n from bytes) >>= (λ _. pure m))) y).out ≡ got k
              → Put geo size at c n from bytes x (apply_all (given w (λ m. set_block geo at i a m >>= (λ _. store (fresh_store geo a n from bytes) >>= (λ _. pure m))) y).stores y)
          go (got m) o =
              let two = through (set_block geo at i a m) (λ _. store (fresh_store geo a n from bytes) >>= (λ _. pure m)) y o in
              subst (Put geo size at c n from bytes x)
              (sym (bind_image (set_block geo at i a m) (λ _. store (fresh_store geo a n from bytes) >>= (λ _. pure m)) y two.first ∙ store-image (fresh_store geo a n from bytes) m (apply_all (set_block geo at i a m y).stores y)))
              (given-put m two.first)
          go (refused e) o = absurd (refuse-out e y o)

    hole-put : node_at geo x (addresses geo at x) c ≡ 0 → (held : ℕ) {k : ℕ} → (fill_hole geo at i n from bytes held x).out ≡ got k → Put geo size at c n from bytes x (apply_all (fill_hole geo at i n from bytes held x).stores x)
    unfolding fill_hole
    hole-put hole held o =
        let two = through (give_block geo) (fill_given geo at i n from bytes held) x o in
        subst (Put geo size at c n from bytes x) (sym (bind_image (give_block geo) (fill_given geo at i n from bytes held) x two.first)) (filled hole two.first held two.second)

    -- ---- a block

    index-put : (held : ℕ) {k : ℕ} → (write_block geo at size i from bytes held x).out ≡ got k → Put geo size at c n from bytes x (apply_all (write_block geo at size i from bytes held x).stores x)
    unfolding write_block
    index-put held {k} o = go (ℕ_discrete (node_at geo x (addresses geo at x) c) 0)
      where
        by : (r : Run) → run_at geo at size x i ≡ r → ((write_run geo at i from bytes held r x).out ≡ got k → Put geo size at c n from bytes x (apply_all (write_run geo at i from bytes held r x).stores x)) → Put geo size at c n from bytes x (apply_all (write_run geo at i from bytes held (run_at geo at size x i) x).stores x)
        by r e f = subst (λ (r : Run). (write_run geo at i from bytes held r x).out ≡ got k → Put geo size at c n from bytes x (apply_all (write_run geo at i from bytes held r x).stores x)) (sym e) f o

        go : Dec (node_at geo x (addresses geo at x) c ≡ 0) → Put geo size at c n from bytes x (apply_all (write_run geo at i from bytes held (run_at geo at size x i) x).stores x)
        go (yes z) = by (Run.Hole n) (run-hole geo size at x fr own i c p n h z) (λ o. hole-put z held o)
        go (no l) =
            let v = node_at geo x (addresses geo at x) c in
            by (Run.At (record { 0 = v }) n) (run-there geo size at x fr own i c p n h l (omega arith))
            (λ o. subst (Put geo size at c n from bytes x) (sym (store-image (piece_store geo v from bytes) held x)) (piece-put geo size at t x fr own i c p n h l (omega arith) from bytes fits))

  pub block-turned : (x : List ℕ) → Frame geo x → Own geo size (addresses geo at x) x → (i from : ℕ) (bytes : List ℕ) → 0 < length bytes → from + length bytes ≤ geo.bsize → i * geo.bsize + (from + length bytes) ≤ size
      → (held : ℕ) {k : ℕ} → (write_block geo at size i from bytes held x).out ≡ got k → Turned geo size at i from bytes x (apply_all (write_block geo at size i from bytes held x).stores x)
  unfolding write_block
  block-turned x fr own i from bytes some room inside held {k} o = go (place_of (per_list geo) i) refl
    where
      cover : Covers geo size i (from + length bytes)
      cover = held-covers geo fr.sizes size i (from + length bytes) (omega arith) room inside

      most : cover.held ≤ geo.bsize
      most = subst (λ (h : Option ℕ). bytes_of h ≤ geo.bsize) cover.is (held-most geo fr.sizes size i)

      go : (w : Place) → place_of (per_list geo) i ≡ w → Turned geo size at i from bytes x (apply_all (write_run geo at i from bytes held (run_at geo at size x i) x).stores x)
      go (Place.Under root level rest) e =
          let c = pos root level rest.0 in
          let p = indexed geo i root level rest (sym e) in
          put-turned geo size at x _ fr own i c p cover.held cover.is from bytes some cover.far most (omega (arith, inside, some)) (index-put x fr own i c p cover.held cover.is from bytes some cover.far most held o)
      go Place.Past e =
          absurd (refuse-out Damaged x (subst (λ (r : Run). (write_run geo at i from bytes held r x).out ≡ got k) (run_past geo size at x fr own i (sym e) cover.held cover.is) o))
