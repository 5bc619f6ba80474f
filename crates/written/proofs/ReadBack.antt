-- inode_write, then inode_read of the same range: the bytes written. Assumes nothing.
use Rattle.std.specs.Prelude.{Result, Ok}
use mathlib.Core.Path.{◌≡◌, refl, sym, ap, subst, ◌∙◌}
use mathlib.Core.Bool.{Bool, true, false, not, ◌&&◌}
use mathlib.Core.List.{List}
use Prim.Native.Nat.{ℕ, ◌+◌, ◌-◌, ◌^◌, ◌≤◌, ◌<◌, min, max}
use native.Mathlib.Nat.{min-eq_left, le-max_right}
use native.Mathlib.Omega.{arith}
use lib.ListN.{length, get_or}
use lib.Seq.{ext_get_or}
use lib.Dec.{eqb, ltb, leb}
use borrow.Author.Tests.{leb-true, eq-eqb, ne_eqb, lt-ltb}
use Rattle.refusal.specs.declared.Refusal.TheVariants.{Damaged, ReadOnly, TextInInode, TooBig}
use Rattle.field.specs.Field.{put}
use Rattle.field.proofs.Laws.{length-put, part-put, part_at}
use Rattle.store.specs.Store.{apply_all}
use Rattle.store.specs.Act.{Out, got, refused, Act, pure, refuse, ◌>>=◌, choose}
use Rattle.store.proofs.ActLaws.{refuse-out}
use Rattle.volume.specs.declared.Geometry.{Geometry}
use Rattle.volume.specs.declared.Volume.{Volume}
use Rattle.volume.specs.Volume.{inode_at}
use Rattle.sound.specs.Test.{taken_of}
use Rattle.inode.specs.declared.Shape.{Shape}
use Rattle.inode.specs.Size.{pick}
use Rattle.inode.specs.Shape.{shape_of, type_of, is_link, sized, in_place}
use Rattle.inode_run.specs.declared.Spot.{Spot}
use Rattle.inode_run.specs.Judge.{ask, reading}
use Rattle.inode_run.specs.Find.{number_ok, typed, spot_of, find_inode}
use Rattle.inode_run.proofs.FindLaws.{find-named, find-got}
use Rattle.inode_read.specs.Read.{read_at}
use Rattle.inode_read.specs.Calls.{place_in, read_out, asked, read_found, inode_read}
use Rattle.inode_read.proofs.JudgeLaws.{taken-frame}
use Rattle.inode_grow.specs.Grow.{grow_rule}
use Rattle.balloc.specs.Calls.{entering, writing}
use Rattle.books.specs.Work.{given}
use Rattle.inode_write.specs.Write.{write_at}
use Rattle.inode_write.specs.Calls.{limit_of, write_judged, write_found, inode_write}
use Rattle.written.specs.Own.{addresses, Own}
use Rattle.written.proofs.Theorems.{Written, size_then, call-written}
use Rattle.refusal.specs.declared.Damage.{Damage}

-- a buffer filled whole
filled : (bytes out : List ℕ) → length out ≡ length bytes → put 0 bytes out ≡ bytes
filled bytes out e =
    let n = length-put 0 bytes out in
    ext_get_or 0 (put 0 bytes out) bytes (n ∙ e)
    (λ k l. let z : 0 + k ≡ k = omega arith in
    ap (λ (j : ℕ). get_or (put 0 bytes out) j 0) (sym z) ∙ part_at 0 bytes (put 0 bytes out) k (omega (arith, l, n, e)) (part-put 0 bytes out (omega (arith, e))))

-- ---- what a write that was not refused says of the inode

-- bytes are written only to a kind that has a size and no text in the record, and only where the file may grow so
pub record Judged (geo : Geometry) (s : Spot) (off n : ℕ) (img : List ℕ) : Type 0 where
  pub has_size : sized s.shape ≡ true
  pub plain : in_place s.shape ≡ false
  pub may : grow_rule geo s.at s.shape (max s.shape.size (off + n)) img ≡ got (tt {0})
  pub ends : off + n ≤ limit_of geo

pub judged-is : (geo : Geometry) (s : Spot) (off n : ℕ) (img : List ℕ) → 0 < n → {u : Unit {0}} → write_judged geo s off n img ≡ got u → Judged geo s off n img
unfolding write_judged
judged-is geo s off n img some {u} e = by (ltb 0 n) (lt-ltb 0 n some) (in_place s.shape) refl (sized s.shape) refl (leb (off + n) (limit_of geo)) refl e
  where
    by : (w : Bool) → w ≡ true → (a : Bool) → in_place s.shape ≡ a → (b : Bool) → sized s.shape ≡ b → (d : Bool) → leb (off + n) (limit_of geo) ≡ d
        → pick (w && a) (refused TextInInode) (pick (w && not b) (refused Damaged) (ask d TooBig (grow_rule geo s.at s.shape (max s.shape.size (off + n)) img))) ≡ got u → Judged geo s off n img
    by true q false y true z true k e = record { has_size = z; plain = y; may = e; ends = leb-true _ _ k }
    by true q false y true z false k e = absurd (let y : ◌≡◌ {A = ℕ} 0 1 = cc in let f : ⊥ = omega arith in f)
    by true q true y b z d k e = absurd (let y : ◌≡◌ {A = ℕ} 0 1 = cc in let f : ⊥ = omega arith in f)
    by true q false y false z d k e = absurd (let y : ◌≡◌ {A = ℕ} 0 1 = cc in let f : ⊥ = omega arith in f)
    by false q a y b z d k e = absurd (let y : ◌≡◌ {A = ℕ} 0 1 = cc in let f : ⊥ = omega arith in f)

found-judged : (geo : Geometry) (s : Spot) (off : ℕ) (buf img : List ℕ) → 0 < length buf → {n : ℕ} → (write_found geo s off buf img).out ≡ got n → Judged geo s off (length buf) img
unfolding write_found
found-judged geo s off buf img some {n} o = go (write_judged geo s off (length buf) img) refl o
  where
    go : (w : Out (Unit {0})) → write_judged geo s off (length buf) img ≡ w → (given w (λ _. write_at geo s.at s.shape.size off buf >>= (λ _. pure (length buf))) img).out ≡ got n → Judged geo s off (length buf) img
    go (got u) e o = judged-is geo s off (length buf) img some e
    go (refused f) e o = absurd (refuse-out f img o)

-- the inode was found, and judged so
pub record Good (geo : Geometry) (i off n : ℕ) (img : List ℕ) : Type 0 where
  pub number : number_ok geo i ≡ true
  pub kind : type_of (shape_of geo.order (inode_at geo i) img).mode ≡ 0 → ⊥
  pub judged : Judged geo (spot_of geo img i) off n img

spot-sized : (geo : Geometry) (i : ℕ) (img : List ℕ) {off n : ℕ} → Judged geo (spot_of geo img i) off n img → sized (shape_of geo.order (inode_at geo i) img) ≡ true
unfolding spot_of
spot-sized geo i img j = j.has_size

-- a file that is no link has no text in its record
pub no_text : (s r : Shape) → s.mode ≡ r.mode → is_link r ≡ false → in_place s ≡ false
unfolding in_place
no_text s r e l = rw (ap (λ (m : ℕ). eqb (type_of m) 10) e ∙ l) refl

sized-mode : (s r : Shape) → s.mode ≡ r.mode → sized s ≡ sized r
unfolding sized
sized-mode s r e = rw e

typed-kind : (s : Shape) → typed s ≡ true → type_of s.mode ≡ 0 → ⊥
unfolding typed
typed-kind s t z = let e = eq-eqb (type_of s.mode) 0 z in let f : not true ≡ true = ap not (sym e) ∙ t in let y : ◌≡◌ {A = ℕ} 0 1 = cc in omega arith

-- it is found again, its mode being what it was
find_again : (geo : Geometry) (i : ℕ) (img z : List ℕ) → {off n : ℕ} → Good geo i off n img → (shape_of geo.order (inode_at geo i) z).mode ≡ (shape_of geo.order (inode_at geo i) img).mode → find_inode geo z i ≡ got (spot_of geo z i)
unfolding spot_of
find_again geo i img z g e = find-got geo z i g.number (spot_of geo z i) refl (λ n. g.kind (ap type_of (sym e) ∙ n))

module _ (vol : Volume) (i off : ℕ) (buf img : List ℕ) (geo : Geometry) (t : taken_of img ≡ Ok geo) (some : 0 < length buf) where
  spot-good : (s : Spot) → find_inode geo img i ≡ got s → {n : ℕ} → (write_found geo s off buf img).out ≡ got n → Good geo i off (length buf) img
  unfolding spot_of
  spot-good s e o =
      let p = find-named geo img (taken-frame img geo t) i s e in
      let same : s.shape ≡ shape_of geo.order (inode_at geo i) img = ap (λ (s : Spot). s.shape) p.is in
      record {
        number = p.number;
        kind = typed-kind (shape_of geo.order (inode_at geo i) img) (subst (λ (s : Shape). typed s ≡ true) same p.typed);
        judged = subst (λ (s : Spot). Judged geo s off (length buf) img) p.is (found-judged geo s off buf img some o);
      }

  pub call-good : (n : ℕ) → (inode_write vol i off buf img).out ≡ got n → Good geo i off (length buf) img
  unfolding inode_write writing choose
  call-good n o = subst (λ (w : Result Geometry Damage). (entering vol work w img).out ≡ got n → Good geo i off (length buf) img) (sym t) (by vol.writable) o
    where
      work : Geometry → Act ℕ
      work geo = λ img. given (find_inode geo img i) (λ s. write_found geo s off buf) img

      found : (w : Out Spot) → find_inode geo img i ≡ w → (given w (λ s. write_found geo s off buf) img).out ≡ got n → Good geo i off (length buf) img
      found (got s) e o = spot-good s e o
      found (refused f) e o = absurd (refuse-out f img o)

      by : (b : Bool) → (choose b (work geo) (refuse ReadOnly) img).out ≡ got n → Good geo i off (length buf) img
      by true o = found (find_inode geo img i) refl o
      by false o = absurd (refuse-out ReadOnly img o)

-- ---- the read

-- of an inode that is found, all the bytes asked for
module _ (geo : Geometry) (i off : ℕ) (buf z : List ℕ) (t : taken_of z ≡ Ok geo) (some : 0 < length buf) (g : find_inode geo z i ≡ got (spot_of geo z i)) where
  place-then : place_in z i ≡ got (record { geo = geo; spot = spot_of geo z i })
  unfolding place_in reading
  place-then = rw (t, g) refl

  read-then : (size : ℕ) → (shape_of geo.order (inode_at geo i) z).size ≡ size → off + length buf ≤ size → in_place (shape_of geo.order (inode_at geo i) z) ≡ false → sized (shape_of geo.order (inode_at geo i) z) ≡ true
      → (out : List ℕ) → length out ≡ length buf → read_at geo (inode_at geo i) size z off (length buf) out ≡ (put 0 buf out, got (length buf)) → inode_read z i off out ≡ (buf, got (length buf))
  unfolding inode_read read_out spot_of
  read-then size e fits plain has out l r =
      let many : asked (length out) (shape_of geo.order (inode_at geo i) z).size off ≡ length buf = ap (λ (n : ℕ). min n ((shape_of geo.order (inode_at geo i) z).size - off)) l ∙ min-eq_left (omega (arith, e, fits)) in
      ap (read_found z off out) place-then
      ∙ ap (λ (n : ℕ). read_out geo (spot_of geo z i) z off n out) many
      ∙ rw (ne_eqb (length buf) 0 (λ y. let f : ⊥ = omega (arith, y, some) in f), plain, has, e) (r ∙ ap (λ (bs : List ℕ). (bs, got (length buf))) (filled buf out l))

-- "After a finished write, reading the range gives the bytes written": where the volume is still taken, and the inode's text is not in its record
pub call_read : (vol : Volume) (i off : ℕ) (buf img : List ℕ) (geo : Geometry) → taken_of img ≡ Ok geo → Own geo (size_then geo i img off (length buf)) (addresses geo (inode_at geo i) img) img
    → 0 < length buf → size_then geo i img off (length buf) < 256 ^ 8 → (n : ℕ) → (inode_write vol i off buf img).out ≡ got n
    → (z : List ℕ) → z ≡ apply_all (inode_write vol i off buf img).stores img → taken_of z ≡ Ok geo → in_place (shape_of geo.order (inode_at geo i) z) ≡ false
    → (out : List ℕ) → length out ≡ length buf → inode_read z i off out ≡ (buf, got (length buf))
call_read vol i off buf img geo t own some small n o z is taken plain out l =
    let w : Written geo (size_then geo i img off (length buf)) (inode_at geo i) off buf img z = subst (Written geo (size_then geo i img off (length buf)) (inode_at geo i) off buf img) (sym is) (call-written vol i off buf img geo t own n o) in
    let good = call-good vol i off buf img geo t some n o in
    let has = sized-mode (shape_of geo.order (inode_at geo i) z) (shape_of geo.order (inode_at geo i) img) w.mode ∙ spot-sized geo i img good.judged in
    read-then geo i off buf z taken some (find_again geo i img z good w.mode) (size_then geo i img off (length buf)) (w.size_as_set small) (le-max_right (shape_of geo.order (inode_at geo i) img).size (off + length buf)) plain has out l (w.read out some)
