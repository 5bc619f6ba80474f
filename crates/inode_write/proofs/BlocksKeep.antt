-- Writing all the blocks of a call keeps the layout, at every cut. Assumes nothing.
use mathlib.Core.List.{List, [], ◌∷◌}
use Prim.Native.Nat.{ℕ, zero, suc, ◌+◌, ◌-◌, ◌*◌, ◌/◌, ◌≤◌, ◌<◌, min, max}
use native.Mathlib.Nat.{mul-le-mul, le_refl, div-mul-le_self, lt-div-mul-add, min-le_left, min-le_right, le-min, le-max_right, le-div_iff_mul-le}
use native.Mathlib.Omega.{arith}
use lib.ListN.{length}
use lib.Dec.{eqb}
use borrow.Author.Tests.{eqb-false}
use Rattle.store.specs.Store.{apply}
use Rattle.store.specs.Act.{pure, reads, ◌>>=◌, choose, each, Always}
use Rattle.store.proofs.AlwaysLaws.{always-all, always-bind, always-pure, always-store-bind, always-read, always-choose}
use Rattle.volume.specs.declared.Geometry.{Geometry}
use Rattle.inode.specs.Places.{size_write, blocks_at}
use Rattle.inode_read.specs.Read.{past_last}
use Rattle.inode_read.proofs.ReachLaws.{block-some}
use Rattle.books.specs.Books.{Steady}
use Rattle.books.proofs.SteadyLaws.{steady-trans}
use Rattle.books.proofs.KeepLaws.{Keeps}
use Rattle.inode_setblock.specs.Set.{InTable}
use Rattle.inode_write.specs.Write.{piece_at, write_turn, write_blocks, write_at}
use Rattle.inode_write.proofs.WriteKeeps.{keeps_piece, size-steady}

module _ (geo : Geometry) (at : ℕ) (t : InTable geo at) (size off : ℕ) (buf : List ℕ) (b : 0 < geo.bsize) (some : 0 < length buf) (fits : off + length buf ≤ size) where
  -- a block that is asked for: it begins before the end, and ends after the start
  module _ (i : ℕ) (lo : off / geo.bsize ≤ i) (hi : i < past_last geo off (length buf)) where
    after : off < i * geo.bsize + geo.bsize
    after = omega (arith, lt-div-mul-add {a = off} b, mul-le-mul lo (le_refl geo.bsize))

    before : i * geo.bsize ≤ off + length buf - 1
    before =
        let m : i ≤ (off + length buf - 1) / geo.bsize = omega arith in
        omega (arith, div-mul-le_self (off + length buf - 1) geo.bsize, mul-le-mul m (le_refl geo.bsize))

    keeps-turn : (h : ℕ) → Keeps geo (write_turn geo at size off buf i h)
    unfolding piece_at
    keeps-turn h =
        let from = off - i * geo.bsize in
        let skip = i * geo.bsize - off in
        let num = min (geo.bsize - from) (length buf - skip) in
        let one : 1 ≤ num = le-min (omega (arith, after)) (omega (arith, before)) in
        let a = min-le_left (geo.bsize - from) (length buf - skip) in
        let c = min-le_right (geo.bsize - from) (length buf - skip) in
        keeps_piece geo at t size i from num skip buf one (omega (arith, a, after)) (omega (arith, c, before, fits)) (omega (arith, c, before)) h

  rest-always : (start : List ℕ) (m i h : ℕ) (img : List ℕ) → Steady geo start img → off / geo.bsize ≤ i → i + m ≤ past_last geo off (length buf) → Always (Steady geo start) (each (write_turn geo at size off buf) m i h) img
  unfolding each
  rest-always start zero i h img s lo hi = always-pure h s
  rest-always start (suc m) i h img s lo hi =
      let k = keeps-turn i lo (omega arith) h start img s in
      always-bind k (λ h' _. rest-always start m (i + 1) h' _ (always-all k) (omega arith) (omega arith))

  keeps-blocks : (h : ℕ) → Keeps geo (write_blocks geo at size off buf h)
  unfolding write_blocks
  keeps-blocks h start img s =
      let l : off / geo.bsize ≤ (off + length buf - 1) / geo.bsize = (le-div_iff_mul-le {k = geo.bsize} b).1 (omega (arith, div-mul-le_self off geo.bsize, some)) in
      let m : off / geo.bsize ≤ past_last geo off (length buf) = omega (arith, l) in
      rest-always start (past_last geo off (length buf) - off / geo.bsize) (off / geo.bsize) h img s (le_refl (off / geo.bsize)) (omega arith)

pub keeps_write : (geo : Geometry) (at : ℕ) → InTable geo at → (size off : ℕ) (buf : List ℕ) → Keeps geo (write_at geo at size off buf)
unfolding write_at
keeps_write geo at t size off buf start img s =
    let u = steady-trans geo s (size-steady geo at t img s.frame (max size (off + length buf))) in
    let b = block-some geo s.frame.sizes in
    always-store-bind (size_write geo.order at (max size (off + length buf)) ∷ []) (λ _. choose (eqb (length buf) 0) (pure (tt {0})) (reads (blocks_at geo.order at) >>= (λ h. write_blocks geo at (max size (off + length buf)) off buf h >>= (λ _. pure (tt {0}))))) s
    (always-choose (eqb (length buf) 0) (λ _. always-pure (tt {0}) u)
    (λ e. always-read (blocks_at geo.order at) (λ h. write_blocks geo at (max size (off + length buf)) off buf h >>= (λ _. pure (tt {0})))
    (let h = blocks_at geo.order at (apply (size_write geo.order at (max size (off + length buf)) ∷ []) img) in
    let some : 0 < length buf = (let nz = eqb-false (length buf) 0 e in omega (arith, nz)) in
    let k = keeps-blocks geo at t (max size (off + length buf)) off buf b some (le-max_right size (off + length buf)) h start _ u in
    always-bind k (λ _ _. always-pure (tt {0}) (always-all k)))))
