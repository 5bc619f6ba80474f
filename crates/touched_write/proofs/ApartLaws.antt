-- Runs, records and books lie apart, so that what the work rests on stays. Assumes nothing.
use mathlib.Core.Path.{◌≡◌, ap}
use mathlib.Core.List.{List}
use mathlib.Core.Logic.{⊎_elim}
use Prim.Native.Nat.{ℕ, ◌-◌, ◌*◌, ◌<◌}
use native.Mathlib.Omega.{arith}
use Rattle.store.specs.Store.{Store, apply}
use Rattle.store.specs.Where.{Range, StoreIn}
use Rattle.store.specs.Act.{Always}
use Rattle.store.proofs.OnlyLaws.{kept-but-store, kept-store}
use Rattle.volume.specs.declared.Geometry.{Geometry}
use Rattle.volume.specs.Volume.{byte_at, cg_at}
use Rattle.volume.proofs.Laws.{byte_at-mono, byte_at-next}
use Rattle.sound.specs.Clauses.{reserved_from}
use Rattle.sound.proofs.Laws.{reserved-within}
use Rattle.frame.specs.Frame.{Frame, RunOk}
use Rattle.frame.proofs.Places.{order, spots, part_outside, run_past, run-apart}
use Rattle.books.specs.Books.{Book, Steady}
use Rattle.books.proofs.BookLaws.{Where, early, in_record, book-where}
use Rattle.books.proofs.SteadyLaws.{steady-refl, steady-trans, run-steady}
use Rattle.books.proofs.KeepLaws.{keeps-give}
use Rattle.balloc_give.specs.Give.{give_block}
use Rattle.inode_setblock.specs.Set.{InTable}
use Rattle.inode_setblock.proofs.SetKeeps.{record_steady}
use Rattle.touched_write.specs.Free.{Free}
use Rattle.touched_write.proofs.FreeLaws.{free-elsewhere, give-fewer}

module _ (geo : Geometry) (xs : List ℕ) (fr : Frame geo xs) where
  pub run-books : (a n : ℕ) → RunOk geo xs a n → 0 < n → {j : ℕ} → Range (a * geo.fsize) (n * geo.fsize) j → Book geo xs j → ⊥
  run-books a n run some {j} r b = by (book-where geo xs fr b)
    where
      by : Where geo xs fr j → ⊥
      by (early e) = omega (arith, e, r.0, run_past geo xs fr a n run some)
      by (in_record h l lo hi) =
          let t = spots geo xs fr h l in
          ⊎_elim (λ k. omega (arith, r.0, r.1, lo, hi)) (λ k. omega (arith, r.0, r.1, lo, hi))
          (part_outside (a * geo.fsize) (n * geo.fsize) (byte_at geo h (reserved_from geo h)) (byte_at geo h geo.dblkno - byte_at geo h (reserved_from geo h)) (cg_at geo h) (byte_at geo h geo.iblkno - cg_at geo h)
          (byte_at-mono geo h (omega (arith, reserved-within geo h, fr.laid.copy)))
          (omega arith)
          (run-apart geo xs fr a n run h l))

  pub table-books : (at : ℕ) → InTable geo at → {j : ℕ} → Range at 256 j → Book geo xs j → ⊥
  table-books at p {j} r b = by (book-where geo xs fr b)
    where
      by : Where geo xs fr j → ⊥
      by (early e) = let s = spots geo xs fr p.group p.one in let q = p.first in omega (arith, e, r.0)
      by (in_record h l lo hi) =
          let s = spots geo xs fr p.group p.one in
          let t = spots geo xs fr h l in
          let q = p.first in
          let z = p.last in
          ⊎_elim (λ k. omega (arith, r.0, r.1, byte_at-next geo k))
          (λ x. ⊎_elim (λ e. let w : byte_at geo p.group geo.iblkno ≡ byte_at geo h geo.iblkno = ap (λ (y : ℕ). byte_at geo y geo.iblkno) e in omega (arith, r.0)) (λ k. omega (arith, r.0, r.1, byte_at-next geo k)) x)
          (order p.group h)

  pub run-table : (a n : ℕ) → RunOk geo xs a n → (at : ℕ) → InTable geo at → {j : ℕ} → Range (a * geo.fsize) (n * geo.fsize) j → Range at 256 j → ⊥
  run-table a n run at p {j} r q =
      let g = p.group in
      let t = spots geo xs fr g p.one in
      let lo = p.first in
      let hi = p.last in
      ⊎_elim (λ k. omega (arith, r.0, r.1, q.0, q.1)) (λ k. omega (arith, r.0, r.1, q.0, q.1))
      (part_outside (a * geo.fsize) (n * geo.fsize) (byte_at geo g (reserved_from geo g)) (byte_at geo g geo.dblkno - byte_at geo g (reserved_from geo g)) at 256
      (let m = byte_at-mono geo g {f = reserved_from geo g} {x = geo.iblkno} (omega (arith, reserved-within geo g, fr.laid.copy, fr.laid.record_first)) in omega (arith, m))
      (let m = byte_at-mono geo g {f = reserved_from geo g} {x = geo.dblkno} (omega (arith, reserved-within geo g, fr.laid.copy, fr.laid.record_first, fr.laid.later)) in omega (arith, m))
      (run-apart geo xs fr a n run g p.one))

-- ---- what the work rests on all along

-- laid out as at the start, and no byte is free that was not then
pub record Going (geo : Geometry) (start img : List ℕ) : Type 0 where
  pub steady : Steady geo start img
  pub fewer : {j : ℕ} → Free geo img j → Free geo start j

module _ (geo : Geometry) (start : List ℕ) where
  pub going-refl : Frame geo start → Going geo start start
  going-refl fr = record { steady = steady-refl geo start fr; fewer = λ p. p }

  -- into the record, and into a run
  pub going-record : (at : ℕ) → InTable geo at → (s : Store) → StoreIn (Range at 256) s → {x : List ℕ} → Going geo start x → Going geo start (apply s x)
  going-record at t s o {x} p =
      let u = record_steady geo x p.steady.frame at t s o in
      record { steady = steady-trans geo p.steady u; fewer = λ q. p.fewer (free-elsewhere geo u (kept-but-store o x) (λ j r b. table-books geo x p.steady.frame at t r b) q) }

  pub going-run : (a n : ℕ) → 0 < n → (s : Store) → StoreIn (Range (a * geo.fsize) (n * geo.fsize)) s → {x : List ℕ} → RunOk geo x a n → Going geo start x → Going geo start (apply s x)
  going-run a n some s o {x} r p =
      let u = run-steady geo x p.steady.frame a n (apply s x) some r (kept-store o x) in
      record { steady = steady-trans geo p.steady u; fewer = λ q. p.fewer (free-elsewhere geo u (kept-but-store o x) (λ j i b. run-books geo x p.steady.frame a n r some i b) q) }

  pub going-give : {x : List ℕ} → Going geo start x → Always (Going geo start) (give_block geo) x
  going-give {x} p = record { holds = λ k. record { steady = (keeps-give geo start x p.steady).holds k; fewer = λ q. p.fewer (give-fewer geo x p.steady.frame k q) } }
