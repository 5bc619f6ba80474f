-- Writing keeps the layout, at every cut. Assumes nothing.
use mathlib.Core.Path.{◌≡◌, refl}
use mathlib.Core.List.{List, [], ◌∷◌}
use Prim.Native.Nat.{ℕ, zero, suc, ◌+◌, ◌-◌, ◌*◌, ◌/◌, ◌≤◌, ◌<◌}
use native.Mathlib.Omega.{arith}
use native.Mathlib.Nat.{zero-mul}
use lib.ListN.{length}
use Rattle.field.specs.Field.{part, zeros}
use Rattle.field.proofs.Laws.{length-zeros, length-part}
use Rattle.refusal.specs.declared.Refusal.TheVariants.{Damaged}
use Rattle.store.specs.Store.{apply}
use Rattle.store.specs.Where.{none, more, StoreIn, Range}
use Rattle.store.specs.Act.{Out, got, refused, Act, pure, store, ◌>>=◌, Always}
use Rattle.store.proofs.AlwaysLaws.{always-all, always-bind, always-pure, always-refuse, always-store-bind}
use Rattle.store.proofs.OnlyLaws.{kept-store}
use Rattle.volume.specs.declared.Geometry.{Geometry}
use Rattle.frame.specs.Frame.{Frame, RunOk}
use Rattle.inode.specs.Places.{size_write}
use Rattle.inode.proofs.PlaceLaws.{size-inside}
use Rattle.inode_run.specs.declared.Run.{Run}
use Rattle.inode_run.specs.declared.Run.TheVariants as Run
use Rattle.inode_run.specs.Run.{run_at}
use Rattle.books.specs.Books.{Steady}
use Rattle.books.specs.Work.{given}
use Rattle.books.proofs.SteadyLaws.{steady-trans, run-steady}
use Rattle.books.proofs.KeepLaws.{Keeps, keeps-give}
use Rattle.inode_setblock.specs.Set.{InTable, set_block}
use Rattle.inode_setblock.proofs.GivenLaws.{block-steady, run-moves, given_stays}
use Rattle.inode_setblock.proofs.SetKeeps.{always_reads, keeps-set, record_steady}
use Rattle.inode_write.specs.Write.{piece_store, fresh_store, held_more, fill_given, fill_hole, write_run, write_block}
use Rattle.inode_write.proofs.RunLaws.{hole-room, at_room}

always_given : {A B : Type 0} {P : List ℕ → Type 0} (o : Out A) (f : A → Act B) {img : List ℕ} → P img → ((a : A) → Always P (f a) img) → Always P (given o f) img
always_given (got a) f p q = q a
always_given {B = B} (refused e) f p q = always-refuse B e p

module _ (geo : Geometry) (at : ℕ) (t : InTable geo at) (from : ℕ) (bytes : List ℕ) where
  -- ---- a hole

  module _ (n : ℕ) (most : n ≤ geo.bsize) (fits : from + length bytes ≤ geo.bsize) where
    fresh_in : (a : ℕ) → StoreIn (Range (a * geo.fsize) geo.bsize) (fresh_store geo a n from bytes)
    unfolding fresh_store
    fresh_in a =
        more {x = record { at = a * geo.fsize; bytes = zeros n }} (λ j lo hi. (lo, omega (arith, rw (length-zeros n) at hi)))
        (more {x = record { at = a * geo.fsize + from; bytes = bytes }} (λ j lo hi. (omega (arith, lo), omega (arith, hi))) none)

    given-always : (start img : List ℕ) → Steady geo start img → (i h a : ℕ) → RunOk geo img a geo.frag → Always (Steady geo start) (fill_given geo at i n from bytes h a) img
    unfolding fill_given
    given-always start img s i h a r =
        always_given (held_more geo h) (λ m. set_block geo at i a m >>= (λ _. store (fresh_store geo a n from bytes) >>= (λ _. pure m))) s
        (λ m. let k = keeps-set geo at t i a m start img s in
        always-bind k (λ _ e.
        let u = always-all k in
        always-store-bind (fresh_store geo a n from bytes) (λ _. pure m) u
        (always-pure m (steady-trans geo u (block-steady geo _ u.frame a (run-moves geo s u a geo.frag r) (fresh_store geo a n from bytes) (fresh_in a))))))

    keeps-hole : (i h : ℕ) → Keeps geo (fill_hole geo at i n from bytes h)
    unfolding fill_hole
    keeps-hole i h start img s =
        let g = keeps-give geo start img s in
        always-bind g (λ a e. given-always start _ (always-all g) i h a (given_stays geo img s.frame a e))

  -- ---- a block

  module _ (some : 0 < from + length bytes) (fits : from + length bytes ≤ geo.bsize) (size i : ℕ) (inside : i * geo.bsize + (from + length bytes) ≤ size) where
    piece_in : (a m : ℕ) → from + length bytes ≤ m → StoreIn (Range (a * geo.fsize) m) (piece_store geo a from bytes)
    unfolding piece_store
    piece_in a m l = more {x = record { at = a * geo.fsize + from; bytes = bytes }} (λ j lo hi. (omega (arith, lo), omega (arith, hi))) none

    some-frags : (k : ℕ) → from + length bytes ≤ k * geo.fsize → 0 < k
    some-frags zero l = omega (arith, zero-mul geo.fsize)
    some-frags (suc k) l = omega arith

    pub keeps-block : (h : ℕ) → Keeps geo (write_block geo at size i from bytes h)
    unfolding write_block
    keeps-block h start img s = always_reads (λ x. write_run geo at i from bytes h (run_at geo at size x i)) (go (run_at geo at size img i) refl)
      where
        go : (r : Run) → run_at geo at size img i ≡ r → Always (Steady geo start) (write_run geo at i from bytes h r) img
        go (Run.At a n) e =
            let q = at_room geo img s.frame at size i (from + length bytes) some fits inside a n e in
            always-store-bind (piece_store geo a.0 from bytes) (λ _. pure h) s
            (always-pure h (steady-trans geo s
            (run-steady geo img s.frame a.0 (n / geo.fsize) (apply (piece_store geo a.0 from bytes) img) (some-frags _ q.1) q.0 (kept-store (piece_in a.0 _ q.1) img))))
        go (Run.Hole n) e = keeps-hole n (hole-room geo img s.frame at size i (from + length bytes) some fits inside n e).0 fits i h start img s
        go Run.Past e = always-refuse ℕ Damaged s
        go Run.Bad e = always-refuse ℕ Damaged s

-- the same of a piece of a buffer
pub keeps_piece : (geo : Geometry) (at : ℕ) → InTable geo at → (size i from num done : ℕ) (buf : List ℕ) → 0 < num → from + num ≤ geo.bsize → i * geo.bsize + (from + num) ≤ size → done + num ≤ length buf
    → (h : ℕ) → Keeps geo (write_block geo at size i from (part num done buf) h)
keeps_piece geo at t size i from num done buf some fits inside l h =
    let long = length-part num done buf l in
    keeps-block geo at t from (part num done buf) (omega arith) (omega arith) size i (omega arith) h

-- ---- the size

pub size-steady : (geo : Geometry) (at : ℕ) → InTable geo at → (img : List ℕ) → Frame geo img → (v : ℕ) → Steady geo img (apply (size_write geo.order at v ∷ []) img)
size-steady geo at t img fr v = record_steady geo img fr at t (size_write geo.order at v ∷ []) (more (size-inside geo.order at v) none)
