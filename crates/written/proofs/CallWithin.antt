-- inode_write on a tidy file, cut after any store or refused: no byte changes but of maps and counts, the record, what was free and the file's own blocks; so every file that shares nothing with it stays. Assumes nothing.
use Rattle.std.specs.Prelude.{Ok}
use mathlib.Core.Path.{◌≡◌, refl, sym, subst}
use mathlib.Core.Bool.{false}
use mathlib.Core.List.{List, [], ◌∷◌}
use Prim.Native.Nat.{ℕ, ◌+◌, ◌*◌, ◌<◌, max}
use native.Mathlib.Nat.{le-max_left, le-max_right}
use native.Mathlib.Omega.{arith}
use lib.ListN.{length}
use lib.Dec.{eqb}
use borrow.Author.Tests.{eqb-false}
use Rattle.refusal.specs.declared.Refusal.TheVariants.{ReadOnly}
use Rattle.store.specs.Store.{apply}
use Rattle.store.specs.Where.{KeptBut}
use Rattle.store.specs.Act.{Out, got, refused, pure, reads, ◌>>=◌, choose, Always}
use Rattle.store.proofs.AlwaysLaws.{always-all, always-bind, always-pure, always-refuse, always-store-bind, always-read, always-choose, always_more}
use Rattle.store.proofs.OnlyLaws.{kept-but-refl, kept-but-more}
use Rattle.volume.specs.declared.Geometry.{Geometry}
use Rattle.volume.specs.declared.Volume.{Volume}
use Rattle.volume.specs.Volume.{inode_at}
use Rattle.sound.specs.Test.{taken_of}
use Rattle.frame.specs.Frame.{Frame}
use Rattle.frame.proofs.Places.{inode-is}
use Rattle.inode.specs.Places.{size_write, blocks_at}
use Rattle.inode_run.specs.declared.Spot.{Spot}
use Rattle.inode_run.specs.Find.{spot_of, find_inode}
use Rattle.inode_run.proofs.FindLaws.{find-named}
use Rattle.inode_read.proofs.JudgeLaws.{taken-frame}
use Rattle.inode_read.proofs.ReachLaws.{block-some}
use Rattle.balloc.specs.Calls.{entering, writing}
use Rattle.books.specs.Work.{given}
use Rattle.inode_setblock.specs.Set.{InTable}
use Rattle.inode_setblock.proofs.SetKeeps.{always_reads}
use Rattle.inode_write.specs.Write.{write_blocks, write_at}
use Rattle.inode_write.specs.Calls.{write_judged, write_found, inode_write}
use Rattle.inode_write.proofs.CallLaws.{in_table}
use Rattle.touched_write.proofs.Theorems.{call-going}
use Rattle.written.specs.Own.{Pos, Valid, node_at, addresses, length_at, Claims, Own, Tidy, FileByte, of_books, of_record, of_free, of_claim}
use Rattle.written.proofs.TouchLaws.{stays-touched}
use Rattle.written.proofs.GrowOwn.{claim-size, own-size, lengths-stay}
use Rattle.written.proofs.Theorems.{size-moved}
use Rattle.written.proofs.ReadBack.{Judged, judged-is}
use Rattle.written.proofs.Others.{Stays, other-stays, inodes-apart}
use Rattle.written.proofs.WriteWithin.{on-from, blocks-within}
use Rattle.written.proofs.Calls.{size_now}

-- the size, then the blocks
at-within : (geo : Geometry) (size at : ℕ) (t : InTable geo at) (off : ℕ) (buf x : List ℕ) → Frame geo x → Own geo (max size (off + length buf)) (addresses geo at x) x
    → Always (KeptBut (FileByte geo (max size (off + length buf)) at x) x) (write_at geo at size off buf) x
unfolding write_at
at-within geo size at t off buf x fr own =
    let new = max size (off + length buf) in
    let s = size_write geo.order at new ∷ [] in
    let y = apply s x in
    let m = size-moved geo new at t x fr own new in
    let d = stays-touched geo new at m (λ j r. of_record r) in
    always-store-bind s (λ _. choose (eqb (length buf) 0) (pure (tt {0})) (reads (blocks_at geo.order at) >>= (λ h. write_blocks geo at new off buf h >>= (λ _. pure (tt {0}))))) (kept-but-refl _ x)
    (always-choose (eqb (length buf) 0) (λ _. always-pure (tt {0}) d.bytes)
    (λ e. let some = some-bytes e in
    always-read (blocks_at geo.order at) (λ h. write_blocks geo at new off buf h >>= (λ _. pure (tt {0})))
    (let w = on-from geo new at t m.steady d (blocks-within geo new at t off buf some (le-max_right size (off + length buf)) (block-some geo fr.sizes) y m.steady.frame m.own (blocks_at geo.order at y)) in
    always-bind w (λ _ _. always-pure (tt {0}) (always-all w)))))
  where
    some-bytes : eqb (length buf) 0 ≡ false → 0 < length buf
    some-bytes e = let nz = eqb-false (length buf) 0 e in omega (arith, nz)

-- the bytes of a file that grows are those of the file as it was
file_size : (geo : Geometry) (old new at : ℕ) (x : List ℕ) → ((c : Pos) → Valid geo c → (node_at geo x (addresses geo at x) c ≡ 0 → ⊥) → length_at geo new c ≡ length_at geo old c) → (j : ℕ) → FileByte geo new at x j → FileByte geo old at x j
file_size geo old new at x same j (of_books b) = of_books b
file_size geo old new at x same j (of_record r) = of_record r
file_size geo old new at x same j (of_free f) = of_free f
file_size geo old new at x same j (of_claim c p) = of_claim c (claim-size geo old new (addresses geo at x) x same c j p)

work_within : (geo : Geometry) (s : Spot) → InTable geo s.at → (off : ℕ) (buf x : List ℕ) → Frame geo x → Tidy geo s.shape.size s.at x → Judged geo s off (length buf) x
    → Always (KeptBut (FileByte geo s.shape.size s.at x) x) (write_at geo s.at s.shape.size off buf) x
work_within geo s t off buf x fr tidy j =
    let new = max s.shape.size (off + length buf) in
    let same = lengths-stay geo s.at s.shape new x fr tidy.own j.has_size j.plain j.may (le-max_left s.shape.size (off + length buf)) tidy.ended in
    always_more (λ y k. kept-but-more (file_size geo s.shape.size new s.at x same) k)
    (at-within geo s.shape.size s.at t off buf x fr (own-size geo s.shape.size new (addresses geo s.at x) x same tidy.own))

-- of an inode that was found: what is judged first stores nothing
found-within : (geo : Geometry) (s : Spot) → InTable geo s.at → (off : ℕ) (buf x : List ℕ) → Frame geo x → 0 < length buf → Tidy geo s.shape.size s.at x
    → Always (KeptBut (FileByte geo s.shape.size s.at x) x) (write_found geo s off buf) x
unfolding write_found
found-within geo s t off buf x fr some tidy =
    always_reads (λ y. given (write_judged geo s off (length buf) y) (λ _. write_at geo s.at s.shape.size off buf >>= (λ _. pure (length buf)))) (go (write_judged geo s off (length buf) x) refl)
  where
    go : (w : Out (Unit {0})) → write_judged geo s off (length buf) x ≡ w → Always (KeptBut (FileByte geo s.shape.size s.at x) x) (given w (λ _. write_at geo s.at s.shape.size off buf >>= (λ _. pure (length buf)))) x
    go (got u) e = let w = work_within geo s t off buf x fr tidy (judged-is geo s off (length buf) x some e) in always-bind w (λ _ _. always-pure (length buf) (always-all w))
    go (refused r) e = always-refuse ℕ r (kept-but-refl _ x)

-- ---- the public call, on a volume that is taken

module _ (vol : Volume) (i off : ℕ) (buf img : List ℕ) (geo : Geometry) (t : taken_of img ≡ Ok geo) (some : 0 < length buf) (tidy : Tidy geo (size_now geo i img) (inode_at geo i) img) where
  fr : Frame geo img
  fr = taken-frame img geo t

  -- the bytes that may change
  abbrev pub Byte : ℕ → Type 0
  Byte = FileByte geo (size_now geo i img) (inode_at geo i) img

  spot-within : (s : Spot) → find_inode geo img i ≡ got s → Always (KeptBut Byte img) (write_found geo s off buf) img
  unfolding spot_of
  spot-within s e =
      let p = find-named geo img fr i s e in
      subst (λ (r : Spot). Always (KeptBut (FileByte geo r.shape.size r.at img) img) (write_found geo s off buf) img) p.is
      (found-within geo s (in_table geo img i s.at p.place) off buf img fr some (subst (λ (r : Spot). Tidy geo r.shape.size r.at img) (sym p.is) tidy))

  pub call-within : Always (KeptBut Byte img) (inode_write vol i off buf) img
  unfolding inode_write writing
  call-within =
      always_reads (λ x. entering vol (λ geo. λ img. given (find_inode geo img i) (λ s. write_found geo s off buf) img) (taken_of x))
      (rw t (always-choose vol.writable (λ _. always_reads (λ x. given (find_inode geo x i) (λ s. write_found geo s off buf)) (go (find_inode geo img i) refl)) (λ _. always-refuse ℕ ReadOnly (kept-but-refl Byte img))))
    where
      go : (o : Out Spot) → find_inode geo img i ≡ o → Always (KeptBut Byte img) (given o (λ s. write_found geo s off buf)) img
      go (got s) e = spot-within s e
      go (refused r) e = always-refuse ℕ r (kept-but-refl Byte img)

  -- another inode's file, tidy and without a block in common, stays
  pub call_stays : (k : ℕ) → (i ≡ k → ⊥) → i < geo.ncg * geo.ipg → k < geo.ncg * geo.ipg → Tidy geo (size_now geo k img) (inode_at geo k) img
      → ((c d : Pos) (j : ℕ) → Claims geo (size_now geo i img) (addresses geo (inode_at geo i) img) img c j → Claims geo (size_now geo k img) (addresses geo (inode_at geo k) img) img d j → ⊥)
      → Always (Stays geo (size_now geo k img) (inode_at geo k) img) (inode_write vol i off buf) img
  call_stays k ne a b theirs apart =
      record {
        holds = λ n.
            let going = (call-going vol i off buf img geo t).holds n in
            other-stays geo (size_now geo i img) (inode_at geo i) (in_table geo img i (inode_at geo i) (inode-is geo img fr i (inode_at geo i) a refl)) (size_now geo k img) (inode_at geo k) (in_table geo img k (inode_at geo k) (inode-is geo img fr k (inode_at geo k) b refl))
            img _ fr tidy.own going.steady (λ j f. going.fewer f) (call-within.holds n) theirs.own (record { records = inodes-apart geo img fr i k ne a b; blocks = apart });
      }
