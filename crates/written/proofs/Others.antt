-- Every other file keeps its record and its bytes through a finished write, where the two share nothing; and two such files share nothing then. Assumes nothing.
use Rattle.std.specs.Prelude.{Ok}
use mathlib.Core.Path.{◌≡◌, refl, ap, subst, ◌∙◌}
use mathlib.Core.List.{List}
use mathlib.Core.Logic.{⊎_elim}
use Prim.Native.Nat.{ℕ, ◌+◌, ◌*◌, ◌/◌, ◌%◌, ◌≤◌, ◌<◌}
use native.Mathlib.Nat.{div-add-mod', pow-zero}
use native.Mathlib.Omega.{arith}
use lib.ListN.{length, get_or}
use Rattle.field.specs.Field.{num}
use Rattle.store.specs.Store.{apply_all}
use Rattle.store.specs.Where.{Range, KeptBut}
use Rattle.store.specs.Act.{got}
use Rattle.store.proofs.OnlyLaws.{kept-but-more, kept-but-num}
use Rattle.volume.specs.declared.Geometry.{Geometry}
use Rattle.volume.specs.declared.Volume.{Volume}
use Rattle.volume.specs.Volume.{byte_at, inode_at}
use Rattle.volume.proofs.Laws.{byte_at-next, inode_at-eq}
use Rattle.sound.specs.Test.{taken_of}
use Rattle.frame.specs.Frame.{Frame}
use Rattle.frame.proofs.Places.{order, spots, inode-is}
use Rattle.inode.specs.Shape.{shape_of, address_at}
use Rattle.mapping.specs.Mapping.{per_list}
use Rattle.inode_run.specs.Run.{file_byte}
use Rattle.inode_read.proofs.JudgeLaws.{taken-frame}
use Rattle.books.specs.Books.{Steady}
use Rattle.inode_setblock.specs.Set.{InTable}
use Rattle.inode_write.specs.Calls.{inode_write}
use Rattle.inode_write.proofs.CallLaws.{in_table}
use Rattle.touched_write.specs.Free.{Free}
use Rattle.touched_write.proofs.ApartLaws.{table-books}
use Rattle.written.specs.Own.{Pos, Valid, node_at, addresses, length_at, Claims, Own, Ended, FileByte, of_books, of_record, of_free, of_claim, Strangers}
use Rattle.written.proofs.NodeLaws.{pos}
use Rattle.written.proofs.MoveLaws.{of_more}
use Rattle.written.proofs.ClaimLaws.{claim-books, claim-table, free-table}
use Rattle.written.proofs.LinkLaws.{else-node, else-moved}
use Rattle.written.proofs.Theorems.{file-alike, size_then, call-written}

-- what the file of that size whose record is at `there` keeps
pub record Stays (geo : Geometry) (size there : ℕ) (x z : List ℕ) : Type 0 where
  pub stands : (j : ℕ) → Range there 256 j → get_or z j 0 ≡ get_or x j 0
  pub shape : shape_of geo.order there z ≡ shape_of geo.order there x
  pub bytes : (w : ℕ) → w < size → file_byte geo there size z w ≡ file_byte geo there size x w
  pub own : Own geo size (addresses geo there z) z
  pub ended : Ended geo size (addresses geo there x) x → Ended geo size (addresses geo there z) z

-- and once the write to the one at `at` is finished they share nothing still
pub record Keeps (geo : Geometry) (size at else there : ℕ) (x z : List ℕ) : Type 0 where
  pub stays : Stays geo else there x z
  pub strangers : Strangers geo size at else there z

module _ (geo : Geometry) (size at : ℕ) (t : InTable geo at) (else there : ℕ) (u : InTable geo there) (x z : List ℕ) (fr : Frame geo x) (own : Own geo size (addresses geo at x) x)
    (steady : Steady geo x z) (fewer : (j : ℕ) → Free geo z j → Free geo x j) (kept : KeptBut (FileByte geo size at x) x z) (theirs : Own geo else (addresses geo there x) x) (apart : Strangers geo size at else there x) where
  -- none of the bytes that change is one of theirs
  not-record : (j : ℕ) → Range there 256 j → FileByte geo size at x j → ⊥
  not-record j r (of_books b) = table-books geo x fr there u r b
  not-record j r (of_record q) = apart.records j q r
  not-record j r (of_free f) = free-table geo x fr there u f r
  not-record j r (of_claim c p) = claim-table geo size (addresses geo at x) x fr own c j p there u r

  not-claim : (d : Pos) (j : ℕ) → Claims geo else (addresses geo there x) x d j → FileByte geo size at x j → ⊥
  not-claim d j q (of_books b) = claim-books geo else (addresses geo there x) x fr theirs d j q b
  not-claim d j q (of_record r) = claim-table geo else (addresses geo there x) x fr theirs d j q at t r
  not-claim d j q (of_free f) = theirs.used d j q f
  not-claim d j q (of_claim c p) = apart.blocks c d j p q

  same-roots : (k : ℕ) → k < 15 → address_at geo.order there k z ≡ address_at geo.order there k x
  unfolding address_at
  same-roots k l = kept-but-num kept 8 (there + 112 + k * 8) (λ j r q. not-record j (omega (arith, r.0), omega (arith, r.1, l)) q) geo.order

  same-node : (d : Pos) → Valid geo d → node_at geo z (addresses geo there z) d ≡ node_at geo x (addresses geo there x) d
  same-node d v = else-node geo else (addresses geo there x) (addresses geo there z) x z fr same-roots (FileByte geo size at x) kept (λ c j l p q. not-claim c j p q) d v

  claim-back : (d : Pos) (j : ℕ) → Claims geo else (addresses geo there z) z d j → Claims geo else (addresses geo there x) x d j
  claim-back d j p =
      let s = same-node d p.valid in
      record { valid = p.valid; live = λ e. p.live (s ∙ e); byte = subst (λ (k : ℕ). Range (k * geo.fsize) (length_at geo else d) j) s p.byte }

  origin : Valid geo (pos 0 0 0)
  origin = record { root = omega arith; depth = omega arith; slot = rw (pow-zero (per_list geo)) (omega arith) }

  still-theirs : Own geo else (addresses geo there z) z
  still-theirs =
      (else-moved geo else (addresses geo there x) (addresses geo there z) x z fr same-roots (FileByte geo size at x) kept (λ c j l p q. not-claim c j p q) (FileByte geo size at x) theirs steady
      fewer (kept-but-more (λ j q. of_more q) kept) (pos 0 0 0) origin refl).own

  same_number : (n p : ℕ) → p + n ≤ 256 → num geo.order n (there + p) z ≡ num geo.order n (there + p) x
  same_number n p l = kept-but-num kept n (there + p) (λ j r q. not-record j (omega (arith, r.0), omega (arith, r.1, l)) q) geo.order

  same_shape : shape_of geo.order there z ≡ shape_of geo.order there x
  unfolding shape_of
  same_shape = λ i. record { mode = same_number 2 0 (omega arith) i; size = same_number 8 16 (omega arith) i; blocks = same_number 8 24 (omega arith) i }

  pub other-stays : Stays geo else there x z
  other-stays =
      record {
        stands = λ j r. kept.byte j (not-record j r);
        shape = same_shape;
        bytes = file-alike geo else there x z fr steady.frame theirs still-theirs same-node (λ d j p. kept.byte j (not-claim d j p));
        own = still-theirs;
        ended = λ e. record { before = λ d v l n. e.before d v l (λ y. n (same-node d v ∙ y)) };
      }

  pub other-keeps : ((c : Pos) (j : ℕ) → Claims geo size (addresses geo at z) z c j → FileByte geo size at x j) → Keeps geo size at else there x z
  other-keeps claims = record { stays = other-stays; strangers = record { records = apart.records; blocks = λ c d j p q. not-claim d j (claim-back d j q) (claims c j p) } }

-- ---- records of two inodes

module _ (geo : Geometry) (img : List ℕ) (fr : Frame geo img) (i k : ℕ) (ne : i ≡ k → ⊥) (a : i < geo.ncg * geo.ipg) (b : k < geo.ncg * geo.ipg) where
  pub inodes-apart : (j : ℕ) → Range (inode_at geo i) 256 j → Range (inode_at geo k) 256 j → ⊥
  inodes-apart j r q =
      let p = inode-is geo img fr i (inode_at geo i) a refl in
      let w = inode-is geo img fr k (inode_at geo k) b refl in
      let g = i / geo.ipg in
      let h = k / geo.ipg in
      let s = spots geo img fr g p.group in
      let t = spots geo img fr h w.group in
      let pf = p.first in
      let pl = p.last in
      let wf = w.first in
      let wl = w.last in
      ⊎_elim (λ l. omega (arith, byte_at-next geo l, r.0, r.1, q.0, q.1))
      (λ x. ⊎_elim (λ e. same e) (λ l. omega (arith, byte_at-next geo l, r.0, r.1, q.0, q.1)) x)
      (order g h)
    where
      same : i / geo.ipg ≡ k / geo.ipg → ⊥
      same e =
          let m : byte_at geo (i / geo.ipg) geo.iblkno ≡ byte_at geo (k / geo.ipg) geo.iblkno = ap (λ (g : ℕ). byte_at geo g geo.iblkno) e in
          let d : i / geo.ipg * geo.ipg ≡ k / geo.ipg * geo.ipg = ap (λ (g : ℕ). g * geo.ipg) e in
          let equal : i % geo.ipg ≡ k % geo.ipg = omega (arith, inode_at-eq geo i, inode_at-eq geo k, m, r.0, r.1, q.0, q.1) in
          ne (omega (arith, div-add-mod' i geo.ipg, div-add-mod' k geo.ipg, d, equal))

-- ---- the public call

-- inode_write answered with a number: another inode's file, of its size, keeps its record and its bytes
pub call_others : (vol : Volume) (i off : ℕ) (buf img : List ℕ) (geo : Geometry) → taken_of img ≡ Ok geo → Own geo (size_then geo i img off (length buf)) (addresses geo (inode_at geo i) img) img
    → (k : ℕ) → (i ≡ k → ⊥) → i < geo.ncg * geo.ipg → k < geo.ncg * geo.ipg → (else : ℕ) → Own geo else (addresses geo (inode_at geo k) img) img
    → ((c d : Pos) (j : ℕ) → Claims geo (size_then geo i img off (length buf)) (addresses geo (inode_at geo i) img) img c j → Claims geo else (addresses geo (inode_at geo k) img) img d j → ⊥)
    → (n : ℕ) → (inode_write vol i off buf img).out ≡ got n → Keeps geo (size_then geo i img off (length buf)) (inode_at geo i) else (inode_at geo k) img (apply_all (inode_write vol i off buf img).stores img)
call_others vol i off buf img geo t own k ne a b else theirs apart n o =
    let fr = taken-frame img geo t in
    let w = call-written vol i off buf img geo t own n o in
    other-keeps geo (size_then geo i img off (length buf)) (inode_at geo i) (in_table geo img i (inode_at geo i) (inode-is geo img fr i (inode_at geo i) a refl)) else (inode_at geo k) (in_table geo img k (inode_at geo k) (inode-is geo img fr k (inode_at geo k) b refl))
    img (apply_all (inode_write vol i off buf img).stores img) fr own w.steady w.touched.fewer w.touched.bytes theirs (record { records = inodes-apart geo img fr i k ne a b; blocks = apart }) w.touched.claims
