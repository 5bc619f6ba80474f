-- A block given out is nobody's, and giving it leaves the file's blocks its own. Assumes nothing.
use mathlib.Core.Path.{◌≡◌, refl, sym, ap, subst, ◌∙◌}
use mathlib.Core.List.{List, [], ◌∷◌}
use mathlib.Core.Logic.{◌⊎◌, inl, inr}
use Prim.Native.Nat.{ℕ, ◌+◌, ◌-◌, ◌*◌, ◌<◌}
use native.Mathlib.Omega.{arith}
use lib.ListN.{get_or}
use Rattle.field.specs.Field.{put, zeros}
use Rattle.field.proofs.Laws.{length-zeros, get_or-zeros, part-put, part_at}
use Rattle.store.specs.Store.{Store, apply, apply_all}
use Rattle.store.specs.Where.{Range, StoreIn, KeptBut}
use Rattle.store.specs.Act.{got, pure, store, ◌>>=◌, Left, leaves, made}
use Rattle.store.proofs.StoreLaws.{apply-one}
use Rattle.store.proofs.ActLaws.{step-good, step_store, leaves-pure}
use Rattle.store.proofs.OnlyLaws.{only-all, kept-but_trans, kept-but-more, kept-but-store}
use Rattle.store.proofs.CutLaws.{cut_act_lem, cut-all}
use Rattle.volume.specs.declared.Geometry.{Geometry}
use Rattle.frame.specs.Frame.{Frame, RunOk}
use Rattle.frame.proofs.Places.{run_inside}
use Rattle.bits.proofs.BitsLaws.{frag-some}
use Rattle.mapping.specs.Mapping.{per_list, entry_at}
use Rattle.mapping.proofs.MappingLaws.{per-is}
use Rattle.balloc_give.specs.Give.{give_block, give_zeroed, zero_write}
use Rattle.books.specs.Books.{Book, Steady}
use Rattle.books.proofs.BookLaws.{give-only}
use Rattle.books.proofs.SteadyLaws.{steady-refl, steady-trans}
use Rattle.inode_setblock.proofs.GivenLaws.{block-bytes, block-steady, run-moves, after-give, given_stays}
use Rattle.touched_write.specs.Free.{Free}
use Rattle.touched_write.proofs.FreeLaws.{free-elsewhere, give-fewer, given-free, given-taken}
use Rattle.touched_write.proofs.ApartLaws.{run-books}
use Rattle.touched_write.proofs.SetStores.{zero_in, zeroed_out_lem}
use Rattle.written.specs.Own.{Pos, Valid, node_at, length_at, Claims, Own}
use Rattle.written.proofs.MoveLaws.{of_free, StepByte, of_books, of_lists, Moved, Spare}
use Rattle.written.proofs.ClaimLaws.{claim-books}
use Rattle.written.proofs.LinkLaws.{Nothing, else-node, else-moved}
use Rattle.written.proofs.ZeroLaws.{number-zero}

-- stores into a block leave the map
pub block-fewer : (geo : Geometry) (img : List ℕ) → Frame geo img → (a : ℕ) → RunOk geo img a geo.frag → (s : Store) → StoreIn (Range (a * geo.fsize) geo.bsize) s → {j : ℕ} → Free geo (apply s img) j → Free geo img j
block-fewer geo img fr a r s o f =
    free-elsewhere geo (block-steady geo img fr a r s o) (kept-but-store o img)
    (λ j i b. run-books geo img fr a geo.frag r (frag-some geo.frag fr.sizes.frag) (i.0, omega (arith, i.1, block-bytes geo img fr)) b) f

-- what giving the block at a leaves: books have changed, and bytes that were free
pub record Fresh (geo : Geometry) (x y : List ℕ) (a : ℕ) : Type 0 where
  pub steady : Steady geo x y
  pub fewer : (j : ℕ) → Free geo y j → Free geo x j
  pub kept : KeptBut (λ j. Book geo x j ⊎ Free geo x j) x y
  pub born : RunOk geo y a geo.frag
  pub free : (j : ℕ) → Range (a * geo.fsize) geo.bsize j → Free geo x j
  pub taken : (j : ℕ) → Free geo y j → Range (a * geo.fsize) geo.bsize j → ⊥

module _ (geo : Geometry) (x : List ℕ) (fr : Frame geo x) where
  fewer-all : {j : ℕ} → Free geo (apply_all (give_block geo x).stores x) j → Free geo x j
  fewer-all {j} f =
      let n = made (give_block geo) x in
      give-fewer geo x fr n (subst (λ (z : List ℕ). Free geo z j) (sym (cut_act_lem n (give_block geo) x ∙ cut-all n (give_block geo x).stores x (omega arith))) f)

  pub give-fresh : {a : ℕ} → (give_block geo x).out ≡ got a → Fresh geo x (apply_all (give_block geo x).stores x) a
  give-fresh {a} e =
      record {
        steady = after-give geo x fr;
        fewer = λ j f. fewer-all f;
        kept = kept-but-more (λ j b. inl b) (only-all (give-only geo x fr) x);
        born = given_stays geo x fr a e;
        free = given-free geo x fr a e;
        taken = λ j f r. given-taken geo x fr a e f r;
      }

  -- bytes stored in it
  pub fresh-store : {y : List ℕ} {a : ℕ} → Fresh geo x y a → (s : Store) → StoreIn (Range (a * geo.fsize) geo.bsize) s → Fresh geo x (apply s y) a
  fresh-store {y} {a} p s o =
      let fy = p.steady.frame in
      let u = block-steady geo y fy a p.born s o in
      record {
        steady = steady-trans geo p.steady u;
        fewer = λ j f. p.fewer j (block-fewer geo y fy a p.born s o f);
        kept = kept-but_trans p.kept (kept-but-more (λ j r. inr (p.free j r)) (kept-but-store o y));
        born = run-moves geo (steady-refl geo y fy) u a geo.frag p.born;
        free = p.free;
        taken = λ j f r. p.taken j (block-fewer geo y fy a p.born s o f) r;
      }

  -- ---- given and zeroed

  zeroed-image : {a : ℕ} → (give_zeroed geo x).out ≡ got a → apply_all (give_zeroed geo x).stores x ≡ apply (zero_write geo a ∷ []) (apply_all (give_block geo x).stores x)
  unfolding give_zeroed leaves
  zeroed-image {a} e =
      sym (ap (λ (l : Left ℕ). l.0)
      (leaves-pure a (apply (zero_write geo a ∷ []) (apply_all (give_block geo x).stores x))
      ∙ step_store (zero_write geo a ∷ []) (λ _. pure a) (apply_all (give_block geo x).stores x)
      ∙ step-good (give_block geo) (λ b. store (zero_write geo b ∷ []) >>= (λ _. pure b)) x {s = apply_all (give_block geo x).stores x} {o = (give_block geo x).out} refl (zeroed_out_lem geo x e)))

  pub zeroed-fresh : {a : ℕ} → (give_zeroed geo x).out ≡ got a → Fresh geo x (apply_all (give_zeroed geo x).stores x) a
  zeroed-fresh {a} e = rw (zeroed-image e) (fresh-store (give-fresh (zeroed_out_lem geo x e)) (zero_write geo a ∷ []) (zero_in geo a))

  zeroed-byte : {a : ℕ} → (give_zeroed geo x).out ≡ got a → (j : ℕ) → Range (a * geo.fsize) geo.bsize j → get_or (apply_all (give_zeroed geo x).stores x) j 0 ≡ 0
  unfolding zero_write
  zeroed-byte {a} e j r =
      let y = apply_all (give_block geo x).stores x in
      let f = give-fresh (zeroed_out_lem geo x e) in
      let n = length-zeros geo.bsize in
      let l = run_inside geo y f.steady.frame a geo.frag f.born in
      let k : a * geo.fsize + (j - a * geo.fsize) ≡ j = omega (arith, r.0) in
      ap (λ (z : List ℕ). get_or z j 0) (zeroed-image e ∙ apply-one (zero_write geo a) y)
      ∙ ap (λ (i : ℕ). get_or (put (a * geo.fsize) (zeros geo.bsize) y) i 0) (sym k)
      ∙ part_at (a * geo.fsize) (zeros geo.bsize) (put (a * geo.fsize) (zeros geo.bsize) y) (j - a * geo.fsize) (omega (arith, n, r.0, r.1))
      (part-put (a * geo.fsize) (zeros geo.bsize) y (omega (arith, n, l, block-bytes geo x fr)))
      ∙ get_or-zeros geo.bsize (j - a * geo.fsize)

  -- its entries are all 0
  pub zeroed-blank : {a : ℕ} → (give_zeroed geo x).out ≡ got a → (m : ℕ) → m < per_list geo → entry_at geo (apply_all (give_zeroed geo x).stores x) a m ≡ 0
  unfolding entry_at
  zeroed-blank {a} e m l =
      let f = zeroed-fresh e in
      let y = apply_all (give_zeroed geo x).stores x in
      let b = rw (per-is geo x fr) at l in
      let w = run_inside geo y f.steady.frame a geo.frag f.born in
      number-zero geo.order (a * geo.fsize + m * 8) y (omega (arith, w, b, block-bytes geo x fr)) (λ j r. zeroed-byte e j (omega (arith, r.0), omega (arith, r.1, b)))

-- ---- the file's blocks stay its own

module _ (geo : Geometry) (size : ℕ) (top : ℕ → ℕ) (x y : List ℕ) (fr : Frame geo x) (own : Own geo size top x) (a : ℕ) (f : Fresh geo x y a) where
  quiet-claim : (c : Pos) (j : ℕ) → Claims geo size top x c j → Book geo x j ⊎ Free geo x j → ⊥
  quiet-claim c j p (inl b) = claim-books geo size top x fr own c j p b
  quiet-claim c j p (inr b) = own.used c j p b

  named : (j : ℕ) → Book geo x j ⊎ Free geo x j → StepByte Nothing geo size top x j
  named j (inl b) = of_books b
  named j (inr b) = of_lists (of_free b)

  pub fresh-node : (c : Pos) → Valid geo c → node_at geo y top c ≡ node_at geo x top c
  fresh-node c v = else-node geo size top top x y fr (λ k l. refl) (λ j. Book geo x j ⊎ Free geo x j) f.kept (λ c j l p q. quiet-claim c j p q) c v

  pub fresh-moved : (c : Pos) → Valid geo c → {v : ℕ} → node_at geo x top c ≡ v → Moved Nothing geo size c v top x top y
  fresh-moved c v e = else-moved geo size top top x y fr (λ k l. refl) (λ j. Book geo x j ⊎ Free geo x j) f.kept (λ c j l p q. quiet-claim c j p q) Nothing own f.steady f.fewer (kept-but-more named f.kept) c v e

  -- nobody's before, and so nobody's then
  pub fresh-unclaimed : (c : Pos) (j : ℕ) → Claims geo size top x c j → Range (a * geo.fsize) geo.bsize j → ⊥
  fresh-unclaimed c j p r = own.used c j p (f.free j r)

  pub fresh-spare : Spare geo size top y a
  fresh-spare =
      record {
        run = f.born;
        unclaimed = λ c j p r.
            let s = fresh-node c p.valid in
            fresh-unclaimed c j (record { valid = p.valid; live = λ z. p.live (s ∙ z); byte = subst (λ (k : ℕ). Range (k * geo.fsize) (length_at geo size c) j) s p.byte }) r;
        taken = λ q r. f.taken _ q r;
      }
