-- Where each store of writing to a file lies. Assumes nothing.
use mathlib.Core.Path.{◌≡◌, refl}
use mathlib.Core.List.{List, [], ◌∷◌}
use Prim.Native.Nat.{ℕ, zero, suc, ◌+◌, ◌-◌, ◌*◌, ◌/◌, ◌≤◌, ◌<◌, min, max}
use native.Mathlib.Nat.{zero-mul, mul-le-mul, le_refl, div-mul-le_self, lt-div-mul-add, min-le_left, min-le_right, le-min, le-max_right, le-div_iff_mul-le}
use native.Mathlib.Omega.{arith}
use lib.ListN.{length}
use lib.Dec.{eqb}
use borrow.Author.Tests.{eqb-false}
use Rattle.field.specs.Field.{part, zeros}
use Rattle.field.proofs.Laws.{length-zeros, length-part}
use Rattle.refusal.specs.declared.Refusal.TheVariants.{Damaged}
use Rattle.store.specs.Store.{apply}
use Rattle.store.specs.Where.{none, more, StoreIn, Range}
use Rattle.store.specs.Act.{pure, reads, store, ◌>>=◌, choose, each}
use Rattle.volume.specs.declared.Geometry.{Geometry}
use Rattle.frame.specs.Frame.{RunOk}
use Rattle.inode.specs.Places.{size_write, blocks_at}
use Rattle.inode.proofs.PlaceLaws.{size-inside}
use Rattle.inode_run.specs.declared.Run.{Run}
use Rattle.inode_run.specs.declared.Run.TheVariants as Run
use Rattle.inode_run.specs.Run.{run_at}
use Rattle.inode_read.specs.Read.{past_last}
use Rattle.inode_read.proofs.ReachLaws.{block-some}
use Rattle.balloc_give.specs.Give.{give_block}
use Rattle.inode_setblock.specs.Set.{InTable, set_block}
use Rattle.inode_setblock.proofs.GivenLaws.{run-moves, given_stays}
use Rattle.inode_write.specs.Write.{piece_store, fresh_store, held_more, fill_given, fill_hole, write_run, write_block, piece_at, write_turn, write_blocks, write_at}
use Rattle.inode_write.proofs.RunLaws.{hole-room, at_room}
use Rattle.touched_write.specs.Free.{Free}
use Rattle.touched_write.specs.Stores.{WriteByte, of_record, of_free, of_data}
use Rattle.touched_write.proofs.GoesLaws.{Fine, fine_bind, fine-pure, fine-refuse, fine-store-bind, fine-choose, fine-given, fine-reads, fine-read}
use Rattle.touched_write.proofs.ApartLaws.{Going, going-record, going-run}
use Rattle.touched_write.proofs.SetStores.{store-more, going-block, fine-give, given-fresh, set-fine}

-- ---- the stores into a block

pub fresh_in : (geo : Geometry) (a n from : ℕ) (bytes : List ℕ) → n ≤ geo.bsize → from + length bytes ≤ geo.bsize → StoreIn (Range (a * geo.fsize) geo.bsize) (fresh_store geo a n from bytes)
unfolding fresh_store
fresh_in geo a n from bytes most fits =
    more {x = record { at = a * geo.fsize; bytes = zeros n }} (λ j lo hi. (lo, omega (arith, rw (length-zeros n) at hi)))
    (more {x = record { at = a * geo.fsize + from; bytes = bytes }} (λ j lo hi. (omega (arith, lo), omega (arith, hi))) none)

pub piece_in : (geo : Geometry) (a m from : ℕ) (bytes : List ℕ) → from + length bytes ≤ m → StoreIn (Range (a * geo.fsize) m) (piece_store geo a from bytes)
unfolding piece_store
piece_in geo a m from bytes l = more {x = record { at = a * geo.fsize + from; bytes = bytes }} (λ j lo hi. (omega (arith, lo), omega (arith, hi))) none

some-frags : (k e f : ℕ) → 0 < e → e ≤ k * f → 0 < k
some-frags zero e f s l = omega (arith, zero-mul f)
some-frags (suc k) e f s l = omega arith

module _ (geo : Geometry) (start : List ℕ) (Seen : List ℕ → Type 0) (at : ℕ) (t : InTable geo at) (size : ℕ) where
  abbrev Q : List ℕ → ℕ → Type 0
  Q = WriteByte geo start Seen at size

  abbrev P : List ℕ → Type 0
  P = Going geo start

  module _ (from : ℕ) (bytes : List ℕ) where
    -- ---- a hole

    module _ (n : ℕ) (most : n ≤ geo.bsize) (fits : from + length bytes ≤ geo.bsize) where
      given-fine : {x : List ℕ} → P x → (i h a : ℕ) → RunOk geo x a geo.frag → ((j : ℕ) → Range (a * geo.fsize) geo.bsize j → Free geo start j) → Fine Q P Seen (fill_given geo at i n from bytes h a) x
      unfolding fill_given
      given-fine {x} p i h a r free =
          fine-given Q P Seen (held_more geo h) (λ m. set_block geo at i a m >>= (λ _. store (fresh_store geo a n from bytes) >>= (λ _. pure m))) p
          (λ m. fine_bind Q P Seen {m = set_block geo at i a m} (set-fine geo start Seen at t size i a m p)
          (λ _ _ u. let w = going-block geo start Seen at t size a (fresh_store geo a n from bytes) (fresh_in geo a n from bytes most fits) (run-moves geo p.steady u.steady a geo.frag r) u in
          fine-store-bind Q P Seen (fresh_store geo a n from bytes) (λ _. pure m) u w
          (λ _. store-more (λ j i. of_free (free j i)) (fresh_in geo a n from bytes most fits)) (fine-pure Q P Seen m w)))

      hole-fine : (i h : ℕ) {x : List ℕ} → P x → Fine Q P Seen (fill_hole geo at i n from bytes h) x
      unfolding fill_hole
      hole-fine i h {x} p =
          fine_bind Q P Seen {m = give_block geo} (fine-give geo start Seen at t size p)
          (λ a e u. given-fine u i h a (given_stays geo x p.steady.frame a e) (given-fresh geo start Seen at t size p e))

    -- ---- a block

    module _ (some : 0 < from + length bytes) (fits : from + length bytes ≤ geo.bsize) (i : ℕ) (inside : i * geo.bsize + (from + length bytes) ≤ size) where
      block-fine : (h : ℕ) {x : List ℕ} → P x → Fine Q P Seen (write_block geo at size i from bytes h) x
      unfolding write_block
      block-fine h {x} p = fine-reads Q P Seen (λ y. write_run geo at i from bytes h (run_at geo at size y i)) (λ _. go (run_at geo at size x i) refl)
        where
          go : (r : Run) → run_at geo at size x i ≡ r → Fine Q P Seen (write_run geo at i from bytes h r) x
          go (Run.At a n) e =
              let q = at_room geo x p.steady.frame at size i (from + length bytes) some fits inside a n e in
              let o = piece_in geo a.0 (n / geo.fsize * geo.fsize) from bytes q.1 in
              let w = going-run geo start a.0 (n / geo.fsize) (some-frags _ _ geo.fsize some q.1) (piece_store geo a.0 from bytes) o q.0 p in
              fine-store-bind Q P Seen (piece_store geo a.0 from bytes) (λ _. pure h) p w
              (λ _. store-more (λ j r. of_data i a n e (r.0, omega (arith, r.1, div-mul-le_self n geo.fsize))) o) (fine-pure Q P Seen h w)
          go (Run.Hole n) e = hole-fine n (hole-room geo x p.steady.frame at size i (from + length bytes) some fits inside n e).0 fits i h p
          go Run.Past e = fine-refuse Q P Seen ℕ Damaged p
          go Run.Bad e = fine-refuse Q P Seen ℕ Damaged p

  -- ---- all blocks

  module _ (off : ℕ) (buf : List ℕ) (b : 0 < geo.bsize) (some : 0 < length buf) (fits : off + length buf ≤ size) where
    module _ (i : ℕ) (lo : off / geo.bsize ≤ i) (hi : i < past_last geo off (length buf)) where
      after : off < i * geo.bsize + geo.bsize
      after = omega (arith, lt-div-mul-add {a = off} b, mul-le-mul lo (le_refl geo.bsize))

      before : i * geo.bsize ≤ off + length buf - 1
      before =
          let m : i ≤ (off + length buf - 1) / geo.bsize = omega arith in
          omega (arith, div-mul-le_self (off + length buf - 1) geo.bsize, mul-le-mul m (le_refl geo.bsize))

      turn-fine : (h : ℕ) {x : List ℕ} → P x → Fine Q P Seen (write_turn geo at size off buf i h) x
      unfolding piece_at
      turn-fine h =
          let from = off - i * geo.bsize in
          let skip = i * geo.bsize - off in
          let num = min (geo.bsize - from) (length buf - skip) in
          let one : 1 ≤ num = le-min (omega (arith, after)) (omega (arith, before)) in
          let a = min-le_left (geo.bsize - from) (length buf - skip) in
          let c = min-le_right (geo.bsize - from) (length buf - skip) in
          let long = length-part num skip buf (omega (arith, c, before)) in
          block-fine from (part num skip buf) (omega (arith, long, one)) (omega (arith, long, a, after)) i (omega (arith, long, c, before, fits)) h

    rest-fine : (m i h : ℕ) {x : List ℕ} → P x → off / geo.bsize ≤ i → i + m ≤ past_last geo off (length buf) → Fine Q P Seen (each (write_turn geo at size off buf) m i h) x
    unfolding each
    rest-fine zero i h p lo hi = fine-pure Q P Seen h p
    rest-fine (suc m) i h p lo hi = fine_bind Q P Seen {m = write_turn geo at size off buf i h} (turn-fine i lo (omega arith) h p) (λ h' _ u. rest-fine m (i + 1) h' u (omega arith) (omega arith))

    blocks-fine : (h : ℕ) {x : List ℕ} → P x → Fine Q P Seen (write_blocks geo at size off buf h) x
    unfolding write_blocks
    blocks-fine h p =
        let l : off / geo.bsize ≤ (off + length buf - 1) / geo.bsize = (le-div_iff_mul-le {k = geo.bsize} b).1 (omega (arith, div-mul-le_self off geo.bsize, some)) in
        let m : off / geo.bsize ≤ past_last geo off (length buf) = omega (arith, l) in
        rest-fine (past_last geo off (length buf) - off / geo.bsize) (off / geo.bsize) h p (le_refl (off / geo.bsize)) (omega arith)

-- the size, then the blocks
pub write_fine : (geo : Geometry) (start : List ℕ) (Seen : List ℕ → Type 0) (at : ℕ) → InTable geo at → (size off : ℕ) (buf : List ℕ) {x : List ℕ} → Going geo start x
    → Fine (WriteByte geo start Seen at (max size (off + length buf))) (Going geo start) Seen (write_at geo at size off buf) x
unfolding write_at
write_fine geo start Seen at t size off buf {x} p =
    let new = max size (off + length buf) in
    let q = WriteByte geo start Seen at new in
    let o = more (size-inside geo.order at new) none in
    let w = going-record geo start at t (size_write geo.order at new ∷ []) o p in
    fine-store-bind q (Going geo start) Seen (size_write geo.order at new ∷ [])
    (λ _. choose (eqb (length buf) 0) (pure (tt {0})) (reads (blocks_at geo.order at) >>= (λ h. write_blocks geo at new off buf h >>= (λ _. pure (tt {0}))))) p w
    (λ _. store-more (λ j r. of_record r) o)
    (fine-choose q (Going geo start) Seen (eqb (length buf) 0) (λ _. fine-pure q (Going geo start) Seen (tt {0}) w)
    (λ e. let some : 0 < length buf = (let nz = eqb-false (length buf) 0 e in omega (arith, nz)) in
    fine-read q (Going geo start) Seen (blocks_at geo.order at) (λ h. write_blocks geo at new off buf h >>= (λ _. pure (tt {0}))) w
    (let h = blocks_at geo.order at (apply (size_write geo.order at new ∷ []) x) in
    fine_bind q (Going geo start) Seen {m = write_blocks geo at new off buf h} (blocks-fine geo start Seen at t new off buf (block-some geo p.steady.frame.sizes) some (le-max_right size (off + length buf)) h w)
    (λ _ _ u. fine-pure q (Going geo start) Seen (tt {0}) u))))
