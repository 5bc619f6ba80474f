-- What is relied on of inode_write once it has answered, said of the file as it was: a tidy file stays tidy, its range reads as the bytes written, its other bytes and every other file are as they were. Assumes nothing.
use Rattle.std.specs.Prelude.{Some, Ok}
use mathlib.Core.Path.{◌≡◌, refl, sym, ap, ◌∙◌}
use mathlib.Core.Bool.{false}
use mathlib.Core.List.{List}
use mathlib.Core.Logic.{◌⊎◌}
use Prim.Native.Nat.{ℕ, zero, suc, ◌+◌, ◌-◌, ◌*◌, ◌/◌, ◌%◌, ◌^◌, ◌≤◌, ◌<◌, max}
use native.Mathlib.Nat.{mod-lt, div-add-mod', le-max_left, max-le}
use native.Mathlib.Omega.{arith}
use lib.ListN.{length}
use Rattle.field.specs.Field.{Bytes}
use Rattle.field.proofs.Laws.{num-bound}
use Rattle.store.specs.Store.{apply_all}
use Rattle.store.specs.Act.{got}
use Rattle.volume.specs.declared.Geometry.{Geometry}
use Rattle.volume.specs.declared.Volume.{Volume}
use Rattle.volume.specs.Volume.{inode_at}
use Rattle.sound.specs.Test.{taken_of}
use Rattle.frame.specs.Frame.{Frame}
use Rattle.frame.proofs.Places.{inode-is}
use Rattle.inode.specs.Size.{held_at}
use Rattle.inode.specs.Shape.{shape_of, is_link}
use Rattle.mapping.specs.declared.Place.{Place}
use Rattle.mapping.specs.declared.Place.TheVariants as Place
use Rattle.mapping.specs.Zones.{place_of}
use Rattle.mapping.specs.Mapping.{per_list}
use Rattle.mapping.proofs.MappingLaws.{per-most}
use Rattle.inode.proofs.SizeLaws.{units}
use Rattle.inode_run.specs.declared.Run.{Run}
use Rattle.inode_run.specs.Run.{run_at, byte_in, file_byte, file_bytes}
use Rattle.inode_run.specs.Find.{spot_of}
use Rattle.inode_run.proofs.FindLaws.{number-is}
use Rattle.inode_read.specs.Calls.{inode_read}
use Rattle.inode_read.proofs.JudgeLaws.{taken-frame}
use Rattle.inode_read.proofs.ReachLaws.{block-some, held-covers}
use Rattle.inode_read.proofs.FileLaws.{block-byte}
use Rattle.inode_write.specs.Calls.{limit_of, inode_write}
use Rattle.inode_write.proofs.CallLaws.{limit_small}
use Rattle.written.specs.Own.{Pos, Valid, node, node_at, addresses, length_at, Claims, Own, Tidy}
use Rattle.written.proofs.NodeLaws.{pos, child-none, node-top, node-next}
use Rattle.written.proofs.MapOwn.{indexed, byte-there, run_past}
use Rattle.written.proofs.GrowOwn.{claim-size, own-size, lengths-stay, ended_grows}
use Rattle.written.proofs.Theorems.{size_then, call-written}
use Rattle.written.proofs.ReadBack.{Judged, no_text, call-good, call_read}
use Rattle.written.proofs.Others.{Keeps, call_others}

max-below : (m n b : ℕ) → m < b → n < b → max m n < b
max-below m n b p q = let l = max-le {a = m} {b = n} {k = b - 1} (omega (arith, p)) (omega (arith, q)) in omega (arith, l, p)

-- ---- a byte before the end is the same at both sizes

module _ (geo : Geometry) (at old new : ℕ) (l : old ≤ new) (img : List ℕ) (fr : Frame geo img) (own : Own geo old (addresses geo at img) img) (then : Own geo new (addresses geo at img) img) where
  size_in : (k e f : ℕ) → held_at geo old k ≡ Some e → held_at geo new k ≡ Some f → (b : ℕ) → b < e → b < f → byte_in geo img (run_at geo at new img k) b ≡ byte_in geo img (run_at geo at old img k) b
  size_in k e f h g b le lf = go (place_of (per_list geo) k) refl
    where
      go : (w : Place) → place_of (per_list geo) k ≡ w → byte_in geo img (run_at geo at new img k) b ≡ byte_in geo img (run_at geo at old img k) b
      go (Place.Under root level rest) y =
          let d = pos root level rest.0 in
          let q = indexed geo k root level rest (sym y) in
          byte-there geo new at img fr then k d q f g b lf ∙ sym (byte-there geo old at img fr own k d q e h b le)
      go Place.Past y = ap (λ (r : Run). byte_in geo img r b) (run_past geo new at img fr then k (sym y) f g ∙ sym (run_past geo old at img fr own k (sym y) e h))

  pub size-byte : (w : ℕ) → w < old → file_byte geo at new img w ≡ file_byte geo at old img w
  size-byte w a =
      let s = block-some geo fr.sizes in
      let k = w / geo.bsize in
      let r = w % geo.bsize in
      let is : w ≡ k * geo.bsize + r = sym (div-add-mod' w geo.bsize) in
      let below : r < geo.bsize = mod-lt w s in
      let c = held-covers geo fr.sizes old k (r + 1) (omega arith) (omega arith) (omega (arith, is, a)) in
      let d = held-covers geo fr.sizes new k (r + 1) (omega arith) (omega arith) (omega (arith, is, a, l)) in
      ap (file_byte geo at new img) is ∙ block-byte geo at new img k r below
      ∙ size_in k c.held d.held c.is d.is r (omega (arith, c.far)) (omega (arith, d.far))
      ∙ sym (block-byte geo at old img k r below) ∙ sym (ap (file_byte geo at old img) is)

-- ---- sizes fit their field

-- an image of bytes says a size of 64 bits, and no write ends past the zones
module _ (geo : Geometry) (img : List ℕ) (fr : Frame geo img) (bytes : Bytes img) (i : ℕ) (a : i < geo.ncg * geo.ipg) where
  size_fits : (shape_of geo.order (inode_at geo i) img).size < 256 ^ 8
  unfolding shape_of
  size_fits = let p = inode-is geo img fr i (inode_at geo i) a refl in num-bound geo.order 8 (inode_at geo i + 16) img bytes (omega (arith, p.inside))

  then-fits : (off n : ℕ) → off + n ≤ limit_of geo → max (shape_of geo.order (inode_at geo i) img).size (off + n) < 256 ^ 8
  then-fits off n l =
      let u = units geo fr.sizes in
      let q = limit_small geo (per-most geo img fr) u.block_top in
      let s = size_fits in
      max-below (shape_of geo.order (inode_at geo i) img).size (off + n) (256 ^ 8) s (omega (arith, l, q))

-- ---- the call

-- the size of inode i's file
abbrev pub size_now : Geometry → ℕ → List ℕ → ℕ
size_now geo i img = (shape_of geo.order (inode_at geo i) img).size

-- what is relied on, of the image x before and z after
pub record Finished (geo : Geometry) (i off : ℕ) (buf x z : List ℕ) : Type 0 where
  pub tidy : Tidy geo (size_then geo i x off (length buf)) (inode_at geo i) z
  pub bytes : file_bytes geo (inode_at geo i) (size_then geo i x off (length buf)) z off (length buf) ≡ buf
  pub others : (w : ℕ) → w < size_now geo i x → (w < off) ⊎ (off + length buf ≤ w) → file_byte geo (inode_at geo i) (size_then geo i x off (length buf)) z w ≡ file_byte geo (inode_at geo i) (size_now geo i x) x w
  pub size : size_now geo i z ≡ size_then geo i x off (length buf)

module _ (vol : Volume) (i off : ℕ) (buf img : List ℕ) (geo : Geometry) (t : taken_of img ≡ Ok geo) (are : Bytes img) (some : 0 < length buf) (tidy : Tidy geo (size_now geo i img) (inode_at geo i) img) (n : ℕ) (o : (inode_write vol i off buf img).out ≡ got n) where
  fr : Frame geo img
  fr = taken-frame img geo t

  grows : size_now geo i img ≤ size_then geo i img off (length buf)
  grows = le-max_left (size_now geo i img) (off + length buf)

  judged : Judged geo (spot_of geo img i) off (length buf) img
  judged = (call-good vol i off buf img geo t some n o).judged

  small : size_then geo i img off (length buf) < 256 ^ 8
  small = then-fits geo img fr are i (number-is geo i (call-good vol i off buf img geo t some n o).number).1 off (length buf) judged.ends

  -- no place is longer then
  lengths : (c : Pos) → Valid geo c → (node_at geo img (addresses geo (inode_at geo i) img) c ≡ 0 → ⊥) → length_at geo (size_then geo i img off (length buf)) c ≡ length_at geo (size_now geo i img) c
  unfolding spot_of
  lengths =
      let j = judged in
      lengths-stay geo (inode_at geo i) (shape_of geo.order (inode_at geo i) img) (size_then geo i img off (length buf)) img fr tidy.own j.has_size j.plain j.may grows tidy.ended

  -- so what is owned at the size that the file has is owned at the one that it will have
  own-then : Own geo (size_then geo i img off (length buf)) (addresses geo (inode_at geo i) img) img
  own-then = own-size geo (size_now geo i img) (size_then geo i img off (length buf)) (addresses geo (inode_at geo i) img) img lengths tidy.own

  pub call-finished : Finished geo i off buf img (apply_all (inode_write vol i off buf img).stores img)
  call-finished =
      let w = call-written vol i off buf img geo t own-then n o in
      record {
        tidy = record { own = w.own; ended = w.ended (ended_grows geo (size_now geo i img) (size_then geo i img off (length buf)) (addresses geo (inode_at geo i) img) img grows tidy.ended) };
        bytes = w.bytes;
        others = λ k a b. w.others k (omega (arith, a, grows)) b ∙ size-byte geo (inode_at geo i) (size_now geo i img) (size_then geo i img off (length buf)) grows img fr tidy.own own-then k a;
        size = w.size_as_set small;
      }

  -- "every other file": one that is tidy and shares no block keeps its record and its bytes, and is tidy and shares no block then
  pub call-strangers : (k : ℕ) → (i ≡ k → ⊥) → k < geo.ncg * geo.ipg → Tidy geo (size_now geo k img) (inode_at geo k) img
      → ((c d : Pos) (j : ℕ) → Claims geo (size_now geo i img) (addresses geo (inode_at geo i) img) img c j → Claims geo (size_now geo k img) (addresses geo (inode_at geo k) img) img d j → ⊥)
      → Keeps geo (size_then geo i img off (length buf)) (inode_at geo i) (size_now geo k img) (inode_at geo k) img (apply_all (inode_write vol i off buf img).stores img)
  call-strangers k ne b theirs apart =
      call_others vol i off buf img geo t own-then k ne (number-is geo i (call-good vol i off buf img geo t some n o).number).1 b (size_now geo k img) theirs.own
      (λ c d j p q. apart c d j (claim-size geo (size_now geo i img) (size_then geo i img off (length buf)) (addresses geo (inode_at geo i) img) img lengths c j p) q) n o

  -- "After a finished write, reading the range gives the bytes written": of a file that is no link, where the volume is still taken
  pub call-reads : (z : List ℕ) → z ≡ apply_all (inode_write vol i off buf img).stores img → taken_of z ≡ Ok geo → is_link (shape_of geo.order (inode_at geo i) img) ≡ false
      → (out : List ℕ) → length out ≡ length buf → inode_read z i off out ≡ (buf, got (length buf))
  call-reads z is taken file out l =
      let w = call-written vol i off buf img geo t own-then n o in
      let mode = ap (λ (y : List ℕ). (shape_of geo.order (inode_at geo i) y).mode) is ∙ w.mode in
      call_read vol i off buf img geo t own-then some small n o z is taken (no_text (shape_of geo.order (inode_at geo i) z) (shape_of geo.order (inode_at geo i) img) mode file) out l

-- ---- such files there are

-- no address, no claim
none-node : (geo : Geometry) (img : List ℕ) (t : ℕ) → t ≡ 0 → (d q : ℕ) → node geo img t d q ≡ 0
none-node geo img t z zero q = node-top geo img t q ∙ z
none-node geo img t z (suc d) q = node-next geo img t d q ∙ child-none geo img (q % per_list geo) (none-node geo img t z d (q / per_list geo))

-- a file without addresses, as a new one, is tidy at any size
pub tidy-none : (geo : Geometry) (size at : ℕ) (img : List ℕ) → ((k : ℕ) → k < 15 → addresses geo at img k ≡ 0) → Tidy geo size at img
tidy-none geo size at img none =
    record {
      own = record {
        once = λ c d j p q. absurd (p.live (none-node geo img _ (none c.root p.valid.root) c.depth c.slot));
        ok = λ c j p. absurd (p.live (none-node geo img _ (none c.root p.valid.root) c.depth c.slot));
        used = λ c j p f. p.live (none-node geo img _ (none c.root p.valid.root) c.depth c.slot);
      };
      ended = record { before = λ c v e n. absurd (n (none-node geo img _ (none c.root v.root) c.depth c.slot)) };
    }
