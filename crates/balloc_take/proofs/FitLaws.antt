-- From a sound volume no count that taking back computes leaves its type, so that the last test never refuses. Assumes nothing.
use Rattle.std.specs.Prelude.{Result, Ok}
use Rattle.std.proofs.Common.{◌≡◌, ℕ, ◌+◌, ◌-◌, ◌/◌, ◌%◌, ◌^◌, ◌<◌, ◌≤◌, Bool, true, false, ◌&&◌, List, nat_abs, sym, refl, ap, ◌∙◌, mod-eq_of_lt, arith, lt-ltb, le-leb}
use native.Mathlib.Nat.{add-mod_right}
use native.Mathlib.Decide.{dec_lt, ℕ_discrete}
use Rattle.refusal.specs.declared.Refusal.TheVariants.{Invalid, Damaged}
use Rattle.field.specs.Field.{Bytes}
use Rattle.field.proofs.Laws.{num-bound}
use Rattle.volume.specs.declared.Geometry.{Geometry}
use Rattle.volume.specs.declared.Count.{Count}
use Rattle.volume.specs.declared.Count.TheVariants.{Nbfree, Nffree}
use Rattle.volume.specs.Volume.{sb_at, cg_at, count_place, total_place}
use Rattle.volume.specs.Signed.{signed}
use Rattle.volume.proofs.Laws.{count-place, total-place, count-is, total-is}
use Rattle.volume.proofs.SignedLaws.{signed-pos, signed_neg}
use Rattle.bits.specs.Bits.{bits_are}
use Rattle.bits.proofs.BitsLaws.{frag-most}
use Rattle.sound.specs.Sound.{free_at}
use Rattle.frame.specs.Frame.{Frame, run_okb}
use Rattle.frame.specs.Writes.{up}
use Rattle.frame.proofs.Places.{spots, run_is}
use Rattle.frame.proofs.SoundKept.{Bounded}
use Rattle.frame.proofs.WriteLaws.{up-is, up-fits}
use Rattle.balloc_take.specs.Take.{good_size, in_block, ask, take_test, group_count, total, rises, falls, whole_then, counts_fit}
use Rattle.balloc_take.specs.Run.{BackRun}
use Rattle.balloc_take.proofs.TestLaws.{run-frag, rises-high, rises-low, falls-low, falls-high, fits-block, fits_whole, fits-part, test-size, test-block, test-place, test-run, back-run}
use Rattle.refusal.specs.declared.Refusal.{Refusal}

-- ---- a signed number of w bytes within b of zero

module _ (w h b x : ℕ) (e : 256 ^ w ≡ h + h) (some : 0 < h) (fits : x < 256 ^ w) (bound : nat_abs (signed w x) ≤ b) where
  -- from below the middle, and from it on
  low : x < h → x ≤ b
  low l = omega (arith, sym (ap nat_abs (signed-pos w x (omega arith))), bound)

  high : h ≤ x → 256 ^ w ≤ x + b
  high l = omega (arith, sym (ap nat_abs (signed_neg w x (omega arith))), bound)

  pub rises-within : (d : ℕ) → b + d < h → rises w x d ≡ true
  rises-within d r = go (dec_lt x h)
    where
      go : Dec (x < h) → rises w x d ≡ true
      go (yes l) = sym (rises-low w h x d e l) ∙ lt-ltb d (h - x) (omega (arith, low l))
      go (no l) = rises-high w h x d e (omega arith)

  -- n higher, it can fall by d
  pub falls-within : (n d : ℕ) → b + n < h → b + d ≤ h → falls w (up w x n) d ≡ true
  falls-within n d r s = go (dec_lt x h) (dec_lt (x + n) (256 ^ w))
    where
      go : Dec (x < h) → Dec (x + n < 256 ^ w) → falls w (up w x n) d ≡ true
      go (yes l) c = let q = low l in let z = up-fits w x n (omega arith) in falls-low w h (up w x n) d e (omega arith)
      go (no l) (yes c) =
          let q = high (omega arith) in
          let z = up-fits w x n c in
          sym (falls-high w h (up w x n) d e some (omega arith)) ∙ le-leb d (up w x n - h) (omega arith)
      go (no l) (no c) =
          let y = x + n - 256 ^ w in
          let z : x + n ≡ y + 256 ^ w = omega arith in
          let v : up w x n ≡ y = up-is w x n ∙ ap (λ (u : ℕ). u % 256 ^ w) z ∙ add-mod_right y (256 ^ w) ∙ mod-eq_of_lt {n = y} {m = 256 ^ w} (omega arith) in
          falls-low w h (up w x n) d e (omega arith)

-- ---- the counts of a bounded volume

module _ (geo : Geometry) (img : List ℕ) (fr : Frame geo img) (bytes : Bytes img) (b : Bounded geo img) where
  count_fits : (g : ℕ) (c : Count) → g < geo.ncg → group_count geo g c img < 256 ^ 4
  count_fits g c l =
      let s = spots geo img fr g l in
      let p = count-place c in
      rw (count-is geo.order (cg_at geo g) img c) (num-bound geo.order 4 (cg_at geo g + count_place c) img bytes (omega arith))

  total-fits : (c : Count) → total geo c img < 256 ^ 8
  total-fits c =
      let p = total-place c in
      let m = fr.laid.low in
      rw (total-is geo.order c img) (num-bound geo.order 8 (sb_at + total_place c) img bytes (omega arith))

  module _ (d : ℕ) (few : d ≤ 8) where
    count-rises : (g : ℕ) (c : Count) → g < geo.ncg → rises 4 (group_count geo g c img) d ≡ true
    count-rises g c l = rises-within 4 2147483648 2147483639 (group_count geo g c img) refl (omega arith) (count_fits g c l) (b.counts g l c) d (omega arith)

    total-rises : (c : Count) → rises 8 (total geo c img) d ≡ true
    total-rises c = rises-within 8 9223372036854775808 4611686018427387904 (total geo c img) refl (omega arith) (total-fits c) (b.totals c) d (omega arith)

    count-falls : (g n : ℕ) (c : Count) → n ≤ 8 → g < geo.ncg → falls 4 (up 4 (group_count geo g c img) n) d ≡ true
    count-falls g n c m l = falls-within 4 2147483648 2147483639 (group_count geo g c img) refl (omega arith) (count_fits g c l) (b.counts g l c) n d (omega arith) (omega arith)

    total_falls : (n : ℕ) (c : Count) → n ≤ 8 → falls 8 (up 8 (total geo c img) n) d ≡ true
    total_falls n c m = falls-within 8 9223372036854775808 4611686018427387904 (total geo c img) refl (omega arith) (total-fits c) (b.totals c) n d (omega arith) (omega arith)

-- a run of a sound volume has room in the counts
pub bounded-fits : {geo : Geometry} {img : List ℕ} {g f n : ℕ} → BackRun geo img g f n → Bytes img → Bounded geo img → counts_fit geo g f n img ≡ true
bounded-fits {geo} {img} {g} {f} {n} r bytes b = go (ℕ_discrete n geo.frag) (whole_then geo g f n img) refl
  where
    fr : Frame geo img
    fr = r.frame

    frag : geo.frag ≤ 8
    frag = frag-most geo.frag (run-frag r)

    few : n ≤ 8
    few = omega (arith, frag, r.most)

    block : (rises 4 (group_count geo g Nbfree img) 1 && rises 8 (total geo Nbfree img) 1) ≡ true
    block = rw (count-rises geo img fr bytes b 1 (omega arith) g Nbfree r.group, total-rises geo img fr bytes b 1 (omega arith) Nbfree)

    frags : (rises 4 (group_count geo g Nffree img) n && rises 8 (total geo Nffree img) n) ≡ true
    frags = rw (count-rises geo img fr bytes b n few g Nffree r.group, total-rises geo img fr bytes b n few Nffree)

    go : Dec (n ≡ geo.frag) → (whole : Bool) → whole_then geo g f n img ≡ whole → counts_fit geo g f n img ≡ true
    go (yes e) whole z = fits-block geo g f n img e ∙ block
    go (no e) true z =
        fits_whole geo g f n img e frags z
        ∙ rw (count-falls geo img fr bytes b geo.frag frag g n Nffree few r.group, total_falls geo img fr bytes b geo.frag frag n Nffree few, block)
    go (no e) false z = fits-part geo g f n img e frags z

-- so the test is the four that 01 names
module _ (geo : Geometry) (a size : ℕ) (img : List ℕ) (fr : Frame geo img) (bytes : Bytes img) (b : Bounded geo img) where
  abbrev clear-or-not : Result (Unit {0}) Refusal
  clear-or-not = ask (bits_are 0 img (free_at geo (a / geo.fpg) img) (a % geo.fpg) (size / geo.fsize)) Damaged (Ok tt)

  placed : good_size geo size ≡ true → in_block geo a (size / geo.fsize) ≡ true → (t : Bool) → run_okb geo img a (size / geo.fsize) ≡ t
      → take_test geo a size img ≡ ask (run_okb geo img a (size / geo.fsize)) Damaged clear-or-not
  placed s i false e = rw e (test-place geo a size img s i e)
  placed s i true e = rw e (test-run geo a size img s i e ∙ rw (bounded-fits (back-run geo a size img s i fr (run_is geo img a (size / geo.fsize) e)) bytes b))

  blocked : good_size geo size ≡ true → (t : Bool) → in_block geo a (size / geo.fsize) ≡ t
      → take_test geo a size img ≡ ask (in_block geo a (size / geo.fsize)) Invalid (ask (run_okb geo img a (size / geo.fsize)) Damaged clear-or-not)
  blocked s false e = rw e (test-block geo a size img s e)
  blocked s true e = rw e (placed s e (run_okb geo img a (size / geo.fsize)) refl)

  pub test-sound : take_test geo a size img ≡
      ask (good_size geo size) Invalid
      (ask (in_block geo a (size / geo.fsize)) Invalid
      (ask (run_okb geo img a (size / geo.fsize)) Damaged
      (ask (bits_are 0 img (free_at geo (a / geo.fpg) img) (a % geo.fpg) (size / geo.fsize)) Damaged
      (Ok tt))))
  test-sound = sized (good_size geo size) refl
    where
      sized : (t : Bool) → good_size geo size ≡ t
          → take_test geo a size img ≡ ask (good_size geo size) Invalid (ask (in_block geo a (size / geo.fsize)) Invalid (ask (run_okb geo img a (size / geo.fsize)) Damaged clear-or-not))
      sized false e = rw e (test-size geo a size img e)
      sized true e = rw e (blocked e (in_block geo a (size / geo.fsize)) refl)
