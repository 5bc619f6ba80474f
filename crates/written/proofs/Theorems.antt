-- Written, then read: of a file whose blocks are its own, a finished write's range reads as the bytes written, the file's other bytes are as they were, and its blocks are still its own. Assumes nothing.
use Rattle.std.specs.Prelude.{Some, Result, Ok}
use mathlib.Core.Path.{◌≡◌, refl, sym, ap, subst, ◌∙◌}
use mathlib.Core.Bool.{Bool, true, false, not}
use mathlib.Core.List.{List, [], ◌∷◌}
use mathlib.Core.Logic.{◌⊎◌, inl}
use Prim.Native.Nat.{ℕ, ◌+◌, ◌-◌, ◌*◌, ◌/◌, ◌%◌, ◌^◌, ◌≤◌, ◌<◌, max}
use native.Mathlib.Nat.{mod-lt, div-add-mod', mul-le-mul, le_refl, div-mul-le_self, lt-div-mul-add, le-max_right, pow-zero, add-mul, one-mul}
use native.Mathlib.Omega.{arith}
use native.Mathlib.Decide.{ℕ_discrete}
use lib.ListN.{length, get_or}
use lib.Seq.{ext_get_or}
use lib.Dec.{eqb}
use borrow.Author.Tests.{eq-eqb, ne_eqb, eqb-true, eqb-false}
use Rattle.refusal.specs.declared.Refusal.TheVariants.{ReadOnly}
use Rattle.field.specs.Field.{put}
use Rattle.store.specs.Store.{Store, apply, apply_all}
use Rattle.store.specs.Where.{none, more, Range, StoreIn}
use Rattle.store.specs.Act.{Out, got, refused, Act, pure, refuse, reads, store, ◌>>=◌, choose}
use Rattle.store.proofs.StoreLaws.{apply_all-none, num-number}
use Rattle.store.proofs.WhereLaws.{num-agree}
use Rattle.store.proofs.ActLaws.{through, read-out, refuse-out, stores-pure, stores-read}
use Rattle.store.proofs.OnlyLaws.{kept-but-store}
use Rattle.volume.specs.declared.Geometry.{Geometry}
use Rattle.volume.specs.declared.Volume.{Volume}
use Rattle.volume.specs.Volume.{inode_at}
use Rattle.sound.specs.Test.{taken_of}
use Rattle.frame.specs.Frame.{Frame}
use Rattle.inode.specs.Size.{held_at}
use Rattle.inode.specs.Shape.{shape_of, address_at}
use Rattle.inode.specs.Places.{size_write, blocks_at}
use Rattle.inode.proofs.PlaceLaws.{size-inside, address_behind, number-other}
use Rattle.mapping.specs.declared.Place.{Place}
use Rattle.mapping.specs.declared.Place.TheVariants as Place
use Rattle.mapping.specs.Zones.{place_of}
use Rattle.mapping.specs.Mapping.{per_list}
use Rattle.inode_run.specs.declared.Run.{Run}
use Rattle.inode_run.specs.declared.Spot.{Spot}
use Rattle.inode_run.specs.Find.{spot_of, find_inode}
use Rattle.inode_run.specs.Run.{run_at, byte_in, file_byte, file_bytes}
use Rattle.inode_run.proofs.FindLaws.{find-named}
use Rattle.inode_read.specs.Read.{past_last, read_at}
use Rattle.inode_read.proofs.ReachLaws.{block-some, held-covers}
use Rattle.inode_read.proofs.FileLaws.{length-bytes, byte_at, block-byte}
use Rattle.inode_read.proofs.ReadLaws.{AllGood, good-stop, read_whole}
use Rattle.inode_read.proofs.JudgeLaws.{taken-frame}
use Rattle.balloc.specs.Calls.{entering, writing}
use Rattle.books.specs.Books.{Steady}
use Rattle.books.specs.Work.{given}
use Rattle.books.proofs.SteadyLaws.{steady-trans}
use Rattle.inode_setblock.specs.Set.{InTable}
use Rattle.inode_write.specs.Write.{write_blocks, write_at}
use Rattle.inode_write.specs.Calls.{write_judged, write_found, inode_write}
use Rattle.inode_write.proofs.CallLaws.{in_table}
use Rattle.written.specs.Own.{Pos, Valid, node_at, addresses, Claims, Own, Ended, of_record}
use Rattle.written.proofs.NodeLaws.{pos}
use Rattle.written.proofs.MoveLaws.{Moved}
use Rattle.written.proofs.ClaimLaws.{claim-table}
use Rattle.written.proofs.LinkLaws.{else-node}
use Rattle.written.proofs.SetOwn.{bind_image}
use Rattle.written.proofs.RootOwn.{as-stored, record-moved, table-inside}
use Rattle.written.proofs.MapOwn.{Indexed, indexed, content, data-claim, byte-there, run_past}
use Rattle.written.proofs.TouchLaws.{Touched, touched-trans, stays-touched}
use Rattle.written.proofs.LoopOwn.{Wrote, blocks-wrote}
use Rattle.refusal.specs.declared.Damage.{Damage}

-- ---- two images with one tree and one set of data read alike

module _ (geo : Geometry) (size at : ℕ) (x z : List ℕ) (fr : Frame geo x) (fz : Frame geo z) (own : Own geo size (addresses geo at x) x) (then : Own geo size (addresses geo at z) z)
    (nodes : (d : Pos) → Valid geo d → node_at geo z (addresses geo at z) d ≡ node_at geo x (addresses geo at x) d) (kept : (d : Pos) (j : ℕ) → Claims geo size (addresses geo at x) x d j → get_or z j 0 ≡ get_or x j 0) where
  alike-in : (k e : ℕ) → held_at geo size k ≡ Some e → (b : ℕ) → b < e → byte_in geo z (run_at geo at size z k) b ≡ byte_in geo x (run_at geo at size x k) b
  alike-in k e held b l = go (place_of (per_list geo) k) refl
    where
      still : (d : Pos) → Indexed geo k d → Dec (node_at geo x (addresses geo at x) d ≡ 0) → content geo z (node_at geo x (addresses geo at x) d) b ≡ content geo x (node_at geo x (addresses geo at x) d) b
      still d q (yes y) = rw (eq-eqb (node_at geo x (addresses geo at x) d) 0 y) refl
      still d q (no y) = rw (ne_eqb (node_at geo x (addresses geo at x) d) 0 y) (kept d _ (data-claim geo size at x fr own k d q e held y b l))

      go : (w : Place) → place_of (per_list geo) k ≡ w → byte_in geo z (run_at geo at size z k) b ≡ byte_in geo x (run_at geo at size x k) b
      go (Place.Under root level rest) y =
          let d = pos root level rest.0 in
          let q = indexed geo k root level rest (sym y) in
          byte-there geo size at z fz then k d q e held b l
          ∙ ap (λ (v : ℕ). content geo z v b) (nodes d q.valid)
          ∙ still d q (ℕ_discrete (node_at geo x (addresses geo at x) d) 0)
          ∙ sym (byte-there geo size at x fr own k d q e held b l)
      go Place.Past y = ap (λ (r : Run). byte_in geo z r b) (run_past geo size at z fz then k (sym y) e held) ∙ sym (ap (λ (r : Run). byte_in geo x r b) (run_past geo size at x fr own k (sym y) e held))

  pub file-alike : (w : ℕ) → w < size → file_byte geo at size z w ≡ file_byte geo at size x w
  file-alike w l =
      let b = block-some geo fr.sizes in
      let k = w / geo.bsize in
      let r = w % geo.bsize in
      let is : w ≡ k * geo.bsize + r = sym (div-add-mod' w geo.bsize) in
      let below : r < geo.bsize = mod-lt w b in
      let cover = held-covers geo fr.sizes size k (r + 1) (omega arith) (omega arith) (omega (arith, is, l)) in
      ap (file_byte geo at size z) is ∙ block-byte geo at size z k r below
      ∙ alike-in k cover.held cover.is r (omega (arith, cover.far))
      ∙ sym (block-byte geo at size x k r below) ∙ sym (ap (file_byte geo at size x) is)

-- ---- the size is stored first

module _ (geo : Geometry) (size at : ℕ) (t : InTable geo at) (x : List ℕ) (fr : Frame geo x) (own : Own geo size (addresses geo at x) x) (new : ℕ) where
  abbrev sized : List ℕ
  sized = apply (size_write geo.order at new ∷ []) x

  size_in : StoreIn (Range at 256) (size_write geo.order at new ∷ [])
  size_in = more (size-inside geo.order at new) none

  size-roots : (k : ℕ) → k < 15 → address_at geo.order at k sized ≡ address_at geo.order at k x
  unfolding size_write
  size-roots k l = address_behind geo.order at 16 8 new x k (omega arith)

  origin : Valid geo (pos 0 0 0)
  origin = record { root = omega arith; depth = omega arith; slot = rw (pow-zero (per_list geo)) (omega arith) }

  pub size-moved : Moved (Range at 256) geo size (pos 0 0 0) (node_at geo x (addresses geo at x) (pos 0 0 0)) (addresses geo at x) x (addresses geo at sized) sized
  size-moved = as-stored geo size at t origin (record-moved geo size at t fr own (λ j r. r) (size_write geo.order at new ∷ []) size_in origin refl) size-roots

  size-node : (d : Pos) → Valid geo d → node_at geo sized (addresses geo at sized) d ≡ node_at geo x (addresses geo at x) d
  size-node d v = else-node geo size (addresses geo at x) (addresses geo at sized) x sized fr size-roots (Range at 256) (kept-but-store size_in x) (λ c j l p r. claim-table geo size (addresses geo at x) x fr own c j p at t r) d v

  size-ended : Ended geo size (addresses geo at x) x → Ended geo size (addresses geo at sized) sized
  size-ended e = record { before = λ d v l n. e.before d v l (λ y. n (size-node d v ∙ y)) }

  size-alike : (w : ℕ) → w < size → file_byte geo at size sized w ≡ file_byte geo at size x w
  size-alike =
      file-alike geo size at x sized fr size-moved.steady.frame own size-moved.own size-node
      (λ d j p. (kept-but-store size_in x).byte j (λ r. claim-table geo size (addresses geo at x) x fr own d j p at t r))

  -- what the record says of the file then, and as long as its front stays
  module _ (z : List ℕ) (long : length z ≡ length sized) (front : (j : ℕ) → Range at 24 j → get_or z j 0 ≡ get_or sized j 0) where
    mode-then : (shape_of geo.order at z).mode ≡ (shape_of geo.order at x).mode
    unfolding shape_of size_write
    mode-then = num-agree 2 (at + 0) sized z long (λ j r. front j (omega (arith, r.0), omega (arith, r.1))) geo.order ∙ number-other geo.order at 16 8 new x 2 0 (inl (omega arith))

    size-is-new : new < 256 ^ 8 → (shape_of geo.order at z).size ≡ new
    unfolding shape_of size_write
    size-is-new small =
        num-agree 8 (at + 16) sized z long (λ j r. front j (omega (arith, r.0), omega (arith, r.1))) geo.order
        ∙ num-number geo.order 8 (at + 16) new x small (omega (arith, table-inside geo size at t x fr))

-- ---- the call

-- what a finished write of the bytes buf from `off` on leaves, of a file that then has that size
pub record Written (geo : Geometry) (size at off : ℕ) (buf x z : List ℕ) : Type 0 where
  pub steady : Steady geo x z
  pub touched : Touched geo size at x z
  pub own : Own geo size (addresses geo at z) z
  pub ended : Ended geo size (addresses geo at x) x → Ended geo size (addresses geo at z) z
  pub mode : (shape_of geo.order at z).mode ≡ (shape_of geo.order at x).mode
  pub size_as_set : size < 256 ^ 8 → (shape_of geo.order at z).size ≡ size
  pub bytes : file_bytes geo at size z off (length buf) ≡ buf
  pub others : (w : ℕ) → w < size → (w < off) ⊎ (off + length buf ≤ w) → file_byte geo at size z w ≡ file_byte geo at size x w
  pub read : (out : List ℕ) → 0 < length buf → read_at geo at size z off (length buf) out ≡ (put 0 buf out, got (length buf))

module _ (geo : Geometry) (size at : ℕ) (t : InTable geo at) (off : ℕ) (buf : List ℕ) (fits : off + length buf ≤ size) (x : List ℕ) (fr : Frame geo x) (own : Own geo size (addresses geo at x) x) where
  abbrev y : List ℕ
  y = apply (size_write geo.order at size ∷ []) x

  -- no bytes: the size alone
  none_written : length buf ≡ 0 → Written geo size at off buf x y
  none_written z =
      let m = size-moved geo size at t x fr own size in
      record {
        steady = m.steady;
        touched = stays-touched geo size at m (λ j r. of_record r);
        own = m.own;
        ended = size-ended geo size at t x fr own size;
        mode = mode-then geo size at t x fr own size y refl (λ j r. refl);
        size_as_set = size-is-new geo size at t x fr own size y refl (λ j r. refl);
        bytes = ext_get_or 0 (file_bytes geo at size y off (length buf)) buf (length-bytes geo at size y off (length buf)) (λ k l. absurd (let f : ⊥ = omega (arith, l, length-bytes geo at size y off (length buf), z) in f));
        others = λ w l o. size-alike geo size at t x fr own size w l;
        read = λ out s. absurd (let f : ⊥ = omega (arith, s, z) in f);
      }

  module _ (some : 0 < length buf) (z : List ℕ) (d : Wrote geo size at t off buf some fits (past_last geo off (length buf)) y z) where
    b : 0 < geo.bsize
    b = block-some geo fr.sizes

    all-below : (w : ℕ) → w < off + length buf → w < past_last geo off (length buf) * geo.bsize
    all-below w l =
        let q = (off + length buf - 1) / geo.bsize in
        let e : (q + 1) * geo.bsize ≡ q * geo.bsize + geo.bsize = add-mul q 1 geo.bsize ∙ ap (λ (k : ℕ). q * geo.bsize + k) (one-mul geo.bsize) in
        omega (arith, l, e, lt-div-mul-add {a = off + length buf - 1} b)

    bytes-are : file_bytes geo at size z off (length buf) ≡ buf
    bytes-are =
        let n = length-bytes geo at size z off (length buf) in
        ext_get_or 0 (file_bytes geo at size z off (length buf)) buf n
        (λ k l. let l' : k < length buf = omega (arith, l, n) in
        let e : off + k - off ≡ k = omega arith in
        byte_at geo at size z off (length buf) k l' ∙ d.inside (off + k) (omega arith) (omega (arith, l')) (all-below (off + k) (omega (arith, l'))) ∙ ap (λ (j : ℕ). get_or buf j 0) e)

    good : AllGood geo at size z b off (length buf)
    good =
        record {
          good = λ k lo hi.
              let m : k ≤ (off + length buf - 1) / geo.bsize = omega (arith, hi) in
              ap not (d.reads k lo hi (omega (arith, mul-le-mul m (le_refl geo.bsize), div-mul-le_self (off + length buf - 1) geo.bsize, fits, some)));
        }

    some_written : Written geo size at off buf x z
    some_written =
        let m = size-moved geo size at t x fr own size in
        record {
          steady = steady-trans geo m.steady d.steady;
          touched = touched-trans geo size at m.steady (stays-touched geo size at m (λ j r. of_record r)) d.touched;
          own = d.own;
          ended = λ e. d.ended (size-ended geo size at t x fr own size e);
          mode = mode-then geo size at t x fr own size z d.steady.long d.front;
          size_as_set = size-is-new geo size at t x fr own size z d.steady.long d.front;
          bytes = bytes-are;
          others = λ w l o. d.outside w l o ∙ size-alike geo size at t x fr own size w l;
          read = λ out s. read_whole geo at size z off (length buf) out (good-stop geo at size z b off (length buf) s good) ∙ ap (λ (bs : List ℕ). (put 0 bs out, got (length buf))) bytes-are;
        }

module _ (geo : Geometry) (size at : ℕ) (t : InTable geo at) (off : ℕ) (buf x : List ℕ) (fr : Frame geo x) (own : Own geo (max size (off + length buf)) (addresses geo at x) x) where
  abbrev new : ℕ
  new = max size (off + length buf)

  abbrev fits : off + length buf ≤ new
  fits = le-max_right size (off + length buf)

  -- the blocks, once the size is stored
  blocks-written : 0 < length buf → (h : ℕ) {u : Unit {0}} → ((write_blocks geo at new off buf h >>= (λ _. pure (tt {0}))) (apply (size_write geo.order at new ∷ []) x)).out ≡ got u
      → Written geo new at off buf x (apply_all ((write_blocks geo at new off buf h >>= (λ _. pure (tt {0}))) (apply (size_write geo.order at new ∷ []) x)).stores (apply (size_write geo.order at new ∷ []) x))
  blocks-written some h o =
      let y = apply (size_write geo.order at new ∷ []) x in
      let m = size-moved geo new at t x fr own new in
      let two = through (write_blocks geo at new off buf h) (λ _. pure (tt {0})) y o in
      let z = apply_all (write_blocks geo at new off buf h y).stores y in
      subst (Written geo new at off buf x)
      (sym (bind_image (write_blocks geo at new off buf h) (λ _. pure (tt {0})) y two.first ∙ ap (λ (ss : List Store). apply_all ss z) (stores-pure (tt {0}) z) ∙ apply_all-none z))
      (some_written geo new at t off buf fits x fr own some z (blocks-wrote geo new at t off buf some fits (block-some geo fr.sizes) y m.steady.frame m.own h two.first))

  pub write-written : {u : Unit {0}} → (write_at geo at size off buf x).out ≡ got u → Written geo new at off buf x (apply_all (write_at geo at size off buf x).stores x)
  unfolding write_at store apply_all choose
  write-written {u} o =
      let s = size_write geo.order at new ∷ [] in
      let rest = choose (eqb (length buf) 0) (pure (tt {0})) (reads (blocks_at geo.order at) >>= (λ h. write_blocks geo at new off buf h >>= (λ _. pure (tt {0})))) in
      let two = through (store s) (λ _. rest) x o in
      subst (Written geo new at off buf x) (sym (bind_image (store s) (λ _. rest) x two.first)) (go (eqb (length buf) 0) refl two.second)
    where
      y' : List ℕ
      y' = apply (size_write geo.order at new ∷ []) x

      go : (b : Bool) → eqb (length buf) 0 ≡ b → (choose b (pure (tt {0})) (reads (blocks_at geo.order at) >>= (λ h. write_blocks geo at new off buf h >>= (λ _. pure (tt {0})))) y').out ≡ got u
          → Written geo new at off buf x (apply_all (choose b (pure (tt {0})) (reads (blocks_at geo.order at) >>= (λ h. write_blocks geo at new off buf h >>= (λ _. pure (tt {0})))) y').stores y')
      go true e o =
          subst (Written geo new at off buf x) (sym (ap (λ (ss : List Store). apply_all ss y') (stores-pure (tt {0}) y') ∙ apply_all-none y')) (none_written geo new at t off buf fits x fr own (eqb-true (length buf) 0 e))
      go false e o =
          let g = blocks_at geo.order at in
          let some : 0 < length buf = (let nz = eqb-false (length buf) 0 e in omega (arith, nz)) in
          subst (Written geo new at off buf x) (sym (ap (λ (ss : List Store). apply_all ss y') (stores-read g (λ h. write_blocks geo at new off buf h >>= (λ _. pure (tt {0}))) y')))
          (blocks-written some (g y') (read-out g (λ h. write_blocks geo at new off buf h >>= (λ _. pure (tt {0}))) y' o))

-- ---- the public call

-- of an inode that was found
found-written : (geo : Geometry) (s : Spot) → InTable geo s.at → (off : ℕ) (buf x : List ℕ) → Frame geo x → Own geo (max s.shape.size (off + length buf)) (addresses geo s.at x) x
    → {n : ℕ} → (write_found geo s off buf x).out ≡ got n → Written geo (max s.shape.size (off + length buf)) s.at off buf x (apply_all (write_found geo s off buf x).stores x)
unfolding write_found
found-written geo s t off buf x fr own {n} o = go (write_judged geo s off (length buf) x) o
  where
    go : (w : Out (Unit {0})) → (given w (λ _. write_at geo s.at s.shape.size off buf >>= (λ _. pure (length buf))) x).out ≡ got n
        → Written geo (max s.shape.size (off + length buf)) s.at off buf x (apply_all (given w (λ _. write_at geo s.at s.shape.size off buf >>= (λ _. pure (length buf))) x).stores x)
    go (got u) o =
        let m = write_at geo s.at s.shape.size off buf in
        let two = through m (λ _. pure (length buf)) x o in
        let z = apply_all (m x).stores x in
        subst (Written geo (max s.shape.size (off + length buf)) s.at off buf x)
        (sym (bind_image m (λ _. pure (length buf)) x two.first ∙ ap (λ (ss : List Store). apply_all ss z) (stores-pure (length buf) z) ∙ apply_all-none z))
        (write-written geo s.shape.size s.at t off buf x fr own two.first)
    go (refused e) o = absurd (refuse-out e x o)

-- the size that the file of inode i has once n bytes are written from `off` on
abbrev pub size_then : Geometry → ℕ → List ℕ → ℕ → ℕ → ℕ
size_then geo i img off n = max (shape_of geo.order (inode_at geo i) img).size (off + n)

module _ (vol : Volume) (i off : ℕ) (buf img : List ℕ) (geo : Geometry) (t : taken_of img ≡ Ok geo) (own : Own geo (size_then geo i img off (length buf)) (addresses geo (inode_at geo i) img) img) where
  spot-written : (s : Spot) → find_inode geo img i ≡ got s → {n : ℕ} → (write_found geo s off buf img).out ≡ got n → Written geo (size_then geo i img off (length buf)) (inode_at geo i) off buf img (apply_all (write_found geo s off buf img).stores img)
  unfolding spot_of
  spot-written s e o =
      let fr = taken-frame img geo t in
      let p = find-named geo img fr i s e in
      let z = apply_all (write_found geo s off buf img).stores img in
      subst (λ (r : Spot). Written geo (max r.shape.size (off + length buf)) r.at off buf img z) p.is
      (found-written geo s (in_table geo img i s.at p.place) off buf img fr (subst (λ (r : Spot). Own geo (max r.shape.size (off + length buf)) (addresses geo r.at img) img) (sym p.is) own) o)

  -- inode_write on a volume that is taken, answered with a number and not refused
  pub call-written : (n : ℕ) → (inode_write vol i off buf img).out ≡ got n → Written geo (size_then geo i img off (length buf)) (inode_at geo i) off buf img (apply_all (inode_write vol i off buf img).stores img)
  unfolding inode_write writing choose
  call-written n o = subst (λ (w : Result Geometry Damage). (entering vol work w img).out ≡ got n → Written geo (size_then geo i img off (length buf)) (inode_at geo i) off buf img (apply_all (entering vol work w img).stores img)) (sym t) (by vol.writable) o
    where
      work : Geometry → Act ℕ
      work geo = λ img. given (find_inode geo img i) (λ s. write_found geo s off buf) img

      found : (w : Out Spot) → find_inode geo img i ≡ w → (given w (λ s. write_found geo s off buf) img).out ≡ got n → Written geo (size_then geo i img off (length buf)) (inode_at geo i) off buf img (apply_all (given w (λ s. write_found geo s off buf) img).stores img)
      found (got s) e o = spot-written s e o
      found (refused f) e o = absurd (refuse-out f img o)

      by : (b : Bool) → (choose b (work geo) (refuse ReadOnly) img).out ≡ got n → Written geo (size_then geo i img off (length buf)) (inode_at geo i) off buf img (apply_all (choose b (work geo) (refuse ReadOnly) img).stores img)
      by true o = found (find_inode geo img i) refl o
      by false o = absurd (refuse-out ReadOnly img o)
