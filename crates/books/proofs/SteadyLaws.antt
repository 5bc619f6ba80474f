-- What stays while the work goes on: stores into books, inodes and data keep the layout. Assumes nothing.
use mathlib.Core.Path.{◌≡◌, refl, sym, ap, subst, ◌∙◌}
use mathlib.Core.Bool.{Bool, true, false}
use mathlib.Core.List.{List, [], ◌∷◌}
use mathlib.Core.Logic.{◌⊎◌, inl, inr, ⊎_elim}
use Prim.Native.Nat.{ℕ, zero, suc, ◌+◌, ◌-◌, ◌*◌, ◌/◌, ◌%◌, ◌≤◌, ◌<◌}
use native.Mathlib.Omega.{arith}
use native.Mathlib.Decide.{dec_lt}
use lib.ListN.{length}
use Rattle.field.specs.Field.{Kept, num}
use Rattle.store.specs.Store.{Store, apply, apply_all}
use Rattle.store.specs.Where.{Range, KeptBut, Only}
use Rattle.store.specs.Act.{Act, Always, cut_act}
use Rattle.store.proofs.OnlyLaws.{kept-but-num, only-cut}
use Rattle.store.proofs.CutLaws.{cut_act_lem}
use Rattle.volume.specs.declared.Geometry.{Geometry}
use Rattle.volume.specs.Volume.{sb_at, byte_at, cg_at}
use Rattle.volume.proofs.Laws.{group-same, kept-group, byte_at-next, byte_at-mono}
use Rattle.sound.specs.Clauses.{reserved_from}
use Rattle.sound.specs.Sound.{group_at}
use Rattle.sound.proofs.Laws.{reserved-within}
use Rattle.frame.specs.Frame.{Frame, Spots, Outside, RunOk, place_okb, run_okb}
use Rattle.frame.proofs.Places.{order, part_outside, spots, run_past, run-apart, run-go, run-stop}
use Rattle.frame.proofs.Stores.{areas-frame}
use Rattle.balloc_give.specs.Give.{give_block}
use Rattle.balloc_give.proofs.Theorems.{give-frame}
use Rattle.balloc_take.specs.Take.{take_back}
use Rattle.balloc_take.proofs.TakeLaws.{take-frame}
use Rattle.books.specs.Books.{Book, Steady}
use Rattle.books.proofs.BookLaws.{give-only, take-only, book-fixed}

place-same : (geo : Geometry) (g f n : ℕ) (xs ys : List ℕ) → group_at geo g ys ≡ group_at geo g xs → place_okb geo ys g f n ≡ place_okb geo xs g f n
unfolding place_okb
place-same geo g f n xs ys e = rw e

module _ (geo : Geometry) where
  pub steady-refl : (xs : List ℕ) → Frame geo xs → Steady geo xs xs
  steady-refl xs fr = record { long = refl; frame = fr; groups = λ g l. refl }

  pub steady-trans : {xs ys zs : List ℕ} → Steady geo xs ys → Steady geo ys zs → Steady geo xs zs
  steady-trans p q = record { long = q.long ∙ p.long; frame = q.frame; groups = λ g l. q.groups g l ∙ p.groups g l }

  -- a run is one as long as the layout stays
  pub steady-run : {xs ys : List ℕ} → Steady geo xs ys → (a n : ℕ) → run_okb geo ys a n ≡ run_okb geo xs a n
  steady-run {xs} {ys} s a n = by (dec_lt (a / geo.fpg) geo.ncg) where
    by : Dec (a / geo.fpg < geo.ncg) → run_okb geo ys a n ≡ run_okb geo xs a n
    by (yes l) = run-go geo ys a n l ∙ place-same geo (a / geo.fpg) (a % geo.fpg) n xs ys (s.groups (a / geo.fpg) l) ∙ sym (run-go geo xs a n l)
    by (no l) = run-stop geo ys a n (omega arith) ∙ sym (run-stop geo xs a n (omega arith))

-- ---- the kinds of store

module _ (geo : Geometry) (xs : List ℕ) (fr : Frame geo xs) where
  -- into the books
  pub book-steady : (ys : List ℕ) → Frame geo ys → KeptBut (Book geo xs) xs ys → Steady geo xs ys
  book-steady ys fy k =
      record {
        long = k.long;
        frame = fy;
        groups = λ g l. group-same geo.order (cg_at geo g) xs ys (fixed g 20 l (inl (omega arith))) (fixed g 92 l (inr (omega arith, omega arith))) (fixed g 96 l (inr (omega arith, omega arith)));
      }
    where
      fixed : (g i : ℕ) → g < geo.ncg → (i + 4 ≤ 28) ⊎ ((40 ≤ i) × (i + 4 ≤ 168)) → num geo.order 4 (cg_at geo g + i) ys ≡ num geo.order 4 (cg_at geo g + i) xs
      fixed g i l q = kept-but-num k 4 (cg_at geo g + i) (λ j r b. book-fixed geo xs fr g i 4 l q b r) geo.order

  -- past the superblock and outside every group's record and maps
  pub areas-steady : (a n : ℕ) (ys : List ℕ) → 66912 ≤ a → ((h : ℕ) → h < geo.ncg → Outside a n (cg_at geo h) (byte_at geo h geo.iblkno - cg_at geo h)) → Kept a n xs ys → Steady geo xs ys
  areas-steady a n ys past o k =
      record {
        long = k.long;
        frame = areas-frame geo a n xs ys fr k past o;
        groups = λ h l. let t = spots geo xs fr h l in
            kept-group k geo.order (cg_at geo h)
            (⊎_elim (λ x. inl (omega arith)) (λ x. inr (omega arith)) (part h 20 4 l (omega arith)))
            (⊎_elim (λ x. inl (omega arith)) (λ x. inr (omega arith)) (part h 92 8 l (omega arith)));
      }
    where
      part : (h i m : ℕ) → h < geo.ncg → cg_at geo h + i + m ≤ byte_at geo h geo.iblkno → Outside a n (cg_at geo h + i) m
      part h i m l w = part_outside a n (cg_at geo h) (byte_at geo h geo.iblkno - cg_at geo h) (cg_at geo h + i) m (omega arith) (omega arith) (o h l)

  -- into a group's inodes
  pub table-steady : (g a n : ℕ) (ys : List ℕ) → g < geo.ncg → byte_at geo g geo.iblkno ≤ a → a + n ≤ byte_at geo g geo.dblkno → Kept a n xs ys → Steady geo xs ys
  table-steady g a n ys lg lo hi k =
      let s = spots geo xs fr g lg in
      areas-steady a n ys (omega arith)
      (λ h lh. let t = spots geo xs fr h lh in
      ⊎_elim (λ k. inr (omega (arith, byte_at-next geo k)))
      (λ x. ⊎_elim (λ e. let z : byte_at geo g geo.iblkno ≡ byte_at geo h geo.iblkno = ap (λ (y : ℕ). byte_at geo y geo.iblkno) e in inl (omega arith))
      (λ k. inl (omega (arith, byte_at-next geo k))) x)
      (order g h)) k

  -- into a run of data
  pub run-steady : (a n : ℕ) (ys : List ℕ) → 0 < n → RunOk geo xs a n → Kept (a * geo.fsize) (n * geo.fsize) xs ys → Steady geo xs ys
  run-steady a n ys p r k =
      areas-steady (a * geo.fsize) (n * geo.fsize) ys (run_past geo xs fr a n r p)
      (λ h lh. let t = spots geo xs fr h lh in
      part_outside (a * geo.fsize) (n * geo.fsize) (byte_at geo h (reserved_from geo h)) (byte_at geo h geo.dblkno - byte_at geo h (reserved_from geo h)) (cg_at geo h) (byte_at geo h geo.iblkno - cg_at geo h)
      (byte_at-mono geo h (omega (arith, reserved-within geo h, fr.laid.copy)))
      (omega arith)
      (run-apart geo xs fr a n r h lh)) k

-- ---- giving out and taking back, at every cut

module _ (geo : Geometry) (img : List ℕ) (fr : Frame geo img) where
  pub give-steady : Always (Steady geo img) (give_block geo) img
  give-steady =
      record { holds = λ k. book-steady geo img fr (cut_act k (give_block geo) img) (give-frame geo img fr k) (rw (cut_act_lem k (give_block geo) img) (only-cut (give-only geo img fr) k img)) }

  pub take-steady : (a size : ℕ) → Always (Steady geo img) (take_back geo a size) img
  take-steady a size =
      record {
        holds = λ k. book-steady geo img fr (cut_act k (take_back geo a size) img) (take-frame geo a size img fr k) (rw (cut_act_lem k (take_back geo a size) img) (only-cut (take-only geo img fr a size) k img));
      }
