-- Maps and counts lie apart from inodes and from lists, so that what these say stays. Assumes nothing.
use mathlib.Core.Path.{◌≡◌, ap, ◌∙◌}
use mathlib.Core.Bool.{true}
use mathlib.Core.List.{List}
use mathlib.Core.Logic.{⊎_elim}
use Prim.Native.Nat.{ℕ, ◌+◌, ◌-◌, ◌*◌, ◌/◌, ◌<◌}
use native.Mathlib.Omega.{arith}
use Rattle.store.specs.Store.{Store, apply}
use Rattle.store.specs.Where.{Range, StoreIn, KeptBut}
use Rattle.store.proofs.CutLaws.{cut_act_lem}
use Rattle.store.proofs.OnlyLaws.{kept-but-refl, kept-but_trans, kept-but-more, kept-but-num, kept-but-store, only-cut}
use Rattle.volume.specs.declared.Geometry.{Geometry}
use Rattle.volume.specs.Volume.{cg_at, byte_at}
use Rattle.volume.proofs.Laws.{byte_at-next, byte_at-mono}
use Rattle.sound.specs.Clauses.{reserved_from}
use Rattle.sound.proofs.Laws.{reserved-within}
use Rattle.frame.specs.Frame.{Frame, InodeIs, RunOk}
use Rattle.frame.proofs.Places.{order, spots, part_outside, run_past, run-apart, run_is}
use Rattle.bits.proofs.BitsLaws.{frag-some}
use Rattle.inode.specs.Shape.{address_at}
use Rattle.mapping.specs.Mapping.{per_list, entry_at, list_ok}
use Rattle.balloc_take.specs.Take.{take_back}
use Rattle.books.specs.Books.{Book, of_free, of_used, of_counts, of_totals, Steady}
use Rattle.books.proofs.BookLaws.{Where, early, in_record, book-where, take-only}
use Rattle.books.proofs.SteadyLaws.{steady-refl, steady-trans, steady-run}
use Rattle.books.proofs.KeepLaws.{keeps-take}
use Rattle.inode_shrink.proofs.ShrinkLaws.{list_bytes}
use Rattle.inode_setblock.proofs.GivenLaws.{block-steady, block-bytes}
use Rattle.touched.specs.Touched.{Alike}
use Rattle.touched.proofs.HoldLaws.{Holds}

-- the maps and counts are where they were
pub book_moves : (geo : Geometry) {xs ys : List ℕ} → Steady geo xs ys → {j : ℕ} → Book geo ys j → Book geo xs j
book_moves geo s (of_free g l r) = let e = s.groups g l in of_free g l (rw e at r)
book_moves geo s (of_used g l r) = let e = s.groups g l in of_used g l (rw e at r)
book_moves geo s (of_counts g l r) = of_counts g l r
book_moves geo s (of_totals r) = of_totals r

pub alike_refl : (geo : Geometry) (Q : ℕ → Type 0) (xs : List ℕ) → Frame geo xs → Alike geo Q xs xs
alike_refl geo Q xs fr = record { steady = steady-refl geo xs fr; but = kept-but-refl Q xs }

pub alike_more : (geo : Geometry) {Q R : ℕ → Type 0} → ((j : ℕ) → Q j → R j) → {xs ys : List ℕ} → Alike geo Q xs ys → Alike geo R xs ys
alike_more geo f a = record { steady = a.steady; but = kept-but-more f a.but }

-- a block taken back changes maps and counts alone
pub alike_take : (geo : Geometry) (Q : ℕ → Type 0) (xs : List ℕ) → ((j : ℕ) → Book geo xs j → Q j) → (a n : ℕ) → Holds (Alike geo Q xs) (take_back geo a n)
alike_take geo Q xs q a n img s =
    record {
      holds = λ k. record {
        steady = (keeps-take geo a n xs img s.steady).holds k;
        but = kept-but_trans s.but (kept-but-more (λ j b. q j (book_moves geo s.steady b)) (rw (cut_act_lem k (take_back geo a n) img) (only-cut (take-only geo img s.steady.frame a n) k img)));
      };
    }

-- a store into a list
pub alike_list : (geo : Geometry) (Q : ℕ → Type 0) (xs : List ℕ) (a : ℕ) → list_ok geo xs a ≡ true → ((j : ℕ) → Range (a * geo.fsize) geo.bsize j → Q j)
    → (s : Store) → StoreIn (Range (a * geo.fsize) geo.bsize) s → {ys : List ℕ} → Alike geo Q xs ys → Alike geo Q xs (apply s ys)
alike_list geo Q xs a ok q s o {ys} k =
    record {
      steady = steady-trans geo k.steady (block-steady geo ys k.steady.frame a (run_is geo ys a geo.frag (steady-run geo k.steady a geo.frag ∙ ok)) s o);
      but = kept-but_trans k.but (kept-but-more q (kept-but-store o ys));
    }

-- ---- apart

module _ (geo : Geometry) (xs : List ℕ) (fr : Frame geo xs) where
  pub record-books : (i at : ℕ) → InodeIs geo xs i at → {j : ℕ} → Book geo xs j → Range at 256 j → ⊥
  record-books i at p {j} b r = by (book-where geo xs fr b)
    where
      by : Where geo xs fr j → ⊥
      by (early e) = let s = spots geo xs fr (i / geo.ipg) p.group in let q = p.first in omega (arith, e, r.0)
      by (in_record h l lo hi) =
          let s = spots geo xs fr (i / geo.ipg) p.group in
          let t = spots geo xs fr h l in
          let q = p.first in
          let z = p.last in
          ⊎_elim (λ k. omega (arith, r.0, r.1, byte_at-next geo k))
          (λ x. ⊎_elim (λ e. let w : byte_at geo (i / geo.ipg) geo.iblkno ≡ byte_at geo h geo.iblkno = ap (λ (y : ℕ). byte_at geo y geo.iblkno) e in omega (arith, r.0)) (λ k. omega (arith, r.0, r.1, byte_at-next geo k)) x)
          (order (i / geo.ipg) h)

  pub list-books : (a : ℕ) → list_ok geo xs a ≡ true → {j : ℕ} → Book geo xs j → Range (a * geo.fsize) geo.bsize j → ⊥
  list-books a ok {j} b r = by (book-where geo xs fr b)
    where
      run : RunOk geo xs a geo.frag
      run = run_is geo xs a geo.frag ok

      by : Where geo xs fr j → ⊥
      by (early e) = omega (arith, e, r.0, run_past geo xs fr a geo.frag run (frag-some geo.frag fr.sizes.frag))
      by (in_record h l lo hi) =
          let t = spots geo xs fr h l in
          let n = block-bytes geo xs fr in
          ⊎_elim (λ k. omega (arith, r.0, r.1, lo, hi)) (λ k. omega (arith, r.0, r.1, lo, hi))
          (part_outside (a * geo.fsize) (geo.frag * geo.fsize) (byte_at geo h (reserved_from geo h)) (byte_at geo h geo.dblkno - byte_at geo h (reserved_from geo h)) (cg_at geo h) (byte_at geo h geo.iblkno - cg_at geo h)
          (byte_at-mono geo h (omega (arith, reserved-within geo h, fr.laid.copy)))
          (omega arith)
          (run-apart geo xs fr a geo.frag run h l))

  -- ---- so they say what they said

  module _ {ys : List ℕ} (k : KeptBut (Book geo xs) xs ys) where
    pub address_stays : (i at : ℕ) → InodeIs geo xs i at → (n : ℕ) → n < 15 → address_at geo.order at n ys ≡ address_at geo.order at n xs
    unfolding address_at
    address_stays i at p n l = kept-but-num k 8 (at + 112 + n * 8) (λ j r b. record-books i at p b (omega (arith, r.0), omega (arith, r.1))) geo.order

    pub entry-stays : (a : ℕ) → list_ok geo xs a ≡ true → (n : ℕ) → n < per_list geo → entry_at geo ys a n ≡ entry_at geo xs a n
    unfolding entry_at
    entry-stays a ok n l =
        let b = list_bytes geo xs fr a ok in
        kept-but-num k 8 (a * geo.fsize + n * 8) (λ j r c. list-books a ok c (omega (arith, r.0), omega (arith, r.1, b.0))) geo.order
