-- Setting a block's address, cut after any store or refused, changes nothing but maps and counts, what was free, the file's lists and the record. Assumes nothing.
use mathlib.Core.Path.{refl, subst}
use mathlib.Core.List.{List, [], ◌∷◌}
use mathlib.Core.Logic.{◌⊎◌, inl, inr, ⊎_elim}
use Prim.Native.Nat.{ℕ, zero, suc, ◌+◌, ◌*◌, ◌/◌, ◌%◌, ◌^◌, ◌<◌}
use native.Mathlib.Omega.{arith}
use lib.Dec.{eqb}
use Rattle.field.specs.Field.{part}
use Rattle.field.proofs.Laws.{length-part}
use Rattle.store.specs.Store.{apply_all}
use Rattle.store.specs.Where.{Range, KeptBut}
use Rattle.store.specs.Act.{Act, pure, store, ◌>>=◌, choose, Always}
use Rattle.store.proofs.AlwaysLaws.{always-all, always-bind, always-pure, always-store, always-store-bind, always-choose, always_more}
use Rattle.store.proofs.CutLaws.{cut_act_lem}
use Rattle.store.proofs.OnlyLaws.{kept-but-refl, kept-but_trans, kept-but-more, kept-but-store, only-cut}
use Rattle.volume.specs.declared.Geometry.{Geometry}
use Rattle.frame.specs.Frame.{Frame}
use Rattle.mapping.specs.Mapping.{per_list, entry_at}
use Rattle.mapping.proofs.MappingLaws.{per-some}
use Rattle.balloc_give.specs.Give.{give_block, give_zeroed, zero_write}
use Rattle.books.specs.Books.{Book}
use Rattle.books.proofs.BookLaws.{give-only}
use Rattle.ialloc_tree.proofs.TreeLaws.{always-list}
use Rattle.inode_setblock.specs.Set.{entry_write, list_store, next_list, set_in}
use Rattle.inode_setblock.proofs.SetKeeps.{always_reads}
use Rattle.inode_setblock.proofs.SetLaws.{list-room, slot-in, last_in}
use Rattle.touched_write.specs.Free.{Free}
use Rattle.touched_write.proofs.FreeLaws.{given-free}
use Rattle.touched_write.proofs.SetStores.{zero_in, entry_in, list-in}
use Rattle.written.specs.Own.{Pos, levels, node}
use Rattle.written.proofs.NodeLaws.{pos}
use Rattle.written.proofs.MoveLaws.{of_free, of_list, StepByte, of_books, of_lists, Moved, step_back}
use Rattle.written.proofs.ClaimLaws.{list-claim, list-run}
use Rattle.written.proofs.LinkLaws.{Nothing}
use Rattle.written.proofs.MapOwn.{run-yes}
use Rattle.written.proofs.SetOwn.{Way, next-made}

-- ---- giving out

module _ (geo : Geometry) (x : List ℕ) (fr : Frame geo x) where
  pub give-within : Always (KeptBut (λ j. Book geo x j ⊎ Free geo x j) x) (give_block geo) x
  give-within = record { holds = λ k. kept-but-more (λ j b. inl b) (rw (cut_act_lem k (give_block geo) x) (only-cut (give-only geo x fr) k x)) }

  pub zeroed-within : Always (KeptBut (λ j. Book geo x j ⊎ Free geo x j) x) (give_zeroed geo) x
  unfolding give_zeroed
  zeroed-within =
      always-bind give-within
      (λ a e. let g = always-all give-within in
      always-store-bind (zero_write geo a ∷ []) (λ _. pure a) g (always-pure a (kept-but_trans g (kept-but-more (λ j r. inr (given-free geo x fr a e j r)) (kept-but-store (zero_in geo a) _)))))

-- ---- the way down

module _ (geo : Geometry) (size : ℕ) (top : ℕ → ℕ) (c : Pos) (a : ℕ) where
  -- what may change, of the image x
  abbrev Set : List ℕ → List ℕ → Type 0
  Set x = KeptBut (StepByte Nothing geo size top x) x

  from-give : {x y : List ℕ} → KeptBut (λ j. Book geo x j ⊎ Free geo x j) x y → Set x y
  from-give {x} k = kept-but-more (λ j q. ⊎_elim (λ b. of_books b) (λ f. of_lists (of_free f)) q) k

  module _ (x : List ℕ) (l r d q k : ℕ) (w : Way geo size top c a x l r d q k) where
    abbrev high : ℕ
    high = node geo x (top r) d q

    above : d < levels r
    above = omega (arith, w.deep)

    -- a byte of the list
    of-list : (j : ℕ) → Range (high * geo.fsize) geo.bsize j → StepByte Nothing geo size top x j
    of-list j u = of_lists (of_list (pos r d q) above (list-claim geo size top x w.frame (pos r d q) w.valid above w.live j u))

    next-within : (i : ℕ) → i < per_list geo → Always (Set x) (next_list geo high i) x
    unfolding next_list
    next-within i b =
        always_reads (λ x. choose (eqb (entry_at geo x high i) 0) (give_zeroed geo >>= (λ e. store (list_store geo (part geo.bsize (high * geo.fsize) x) high i e) >>= (λ _. pure e))) (pure (entry_at geo x high i)))
        (always-choose (eqb (entry_at geo x high i) 0)
        (λ _. let z = always_more (λ y p. from-give p) (zeroed-within geo x w.frame) in
        always-bind z
        (λ n e. let g = always-all z in
        let ok = run-yes geo x high geo.frag (list-run geo size top x w.frame w.own (pos r d q) w.valid above w.live) in
        let o = list-in geo x w.frame high i n b (part geo.bsize (high * geo.fsize) x) (length-part geo.bsize (high * geo.fsize) x (list-room geo x w.frame high ok).0) in
        always-store-bind (list_store geo (part geo.bsize (high * geo.fsize) x) high i n) (λ _. pure n) g (always-pure n (kept-but_trans g (kept-but-more of-list (kept-but-store o _))))))
        (λ _. always-pure (entry_at geo x high i) (kept-but-refl _ x)))

  -- on from what a finished step left
  on-from : {v : ℕ} {x y : List ℕ} {A : Type 0} {m : Act A} → Moved Nothing geo size c v top x top y → Always (Set y) m y → Always (Set x) m y
  on-from m p = always_more (λ z k. kept-but_trans m.bytes (kept-but-more (step_back geo size c m) k)) p

  pub set-within : (l : ℕ) (x : List ℕ) (r d q k : ℕ) → Way geo size top c a x l r d q k → Always (Set x) (set_in geo l (node geo x (top r) d q) k a) x
  unfolding set_in
  set-within zero x r d q k w =
      let n = node geo x (top r) d q in
      let b = last_in (per_list geo) 0 k refl w.rest in
      always-list geo n (kept-but-refl _ x)
      (λ _. always-store (entry_write geo n k a ∷ []) (kept-but-refl _ x) (kept-but-more (of-list x 0 r d q k w) (kept-but-store (entry_in geo x w.frame n k a b) x)))
  set-within (suc l) x r d q k w =
      let n = node geo x (top r) d q in
      let p = per_list geo in
      let m = next-within x (suc l) r d q k w (k / p ^ suc l) (slot-in p (suc l) _ (per-some geo x w.frame) refl k w.rest) in
      always-list geo n (kept-but-refl _ x)
      (λ _. always-bind m
      (λ e o. let next = next-made geo size top c a x l r d q k w o in
      subst (λ (e : ℕ). Always (Set x) (set_in geo l e (k % p ^ suc l) a) (apply_all (next_list geo n (k / p ^ suc l) x).stores x)) next.is
      (on-from next.moved (set-within l (apply_all (next_list geo n (k / p ^ suc l) x).stores x) r (suc d) (q * p + k / p ^ suc l) (k % p ^ suc l) next.way))))
