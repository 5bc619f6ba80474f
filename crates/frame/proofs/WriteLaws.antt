-- The laws of `specs/Writes.antt`: what each write leaves, that it keeps the frame, and which bytes it writes. Assumes nothing.
use mathlib.Core.Path.{◌≡◌, refl, sym, ap, subst, ◌∙◌}
use mathlib.Core.Bool.{Bool, true, false}
use mathlib.Core.List.{List, [], ◌∷◌}
use mathlib.Core.Logic.{◌⊎◌, inl, inr, ⊎_elim}
use Prim.Native.Nat.{ℕ, ◌+◌, ◌-◌, ◌*◌, ◌/◌, ◌%◌, ◌^◌, ◌≤◌, ◌<◌}
use native.Mathlib.Nat.{mod-eq_of_lt, add-mod_right}
use native.Mathlib.Decide.{dec_lt}
use native.Mathlib.Omega.{arith}
use lib.ListN.{length, get_or, set}
use lib.Seq.{set-set}
use Rattle.field.specs.declared.Order.{Order}
use Rattle.field.specs.Field.{Kept}
use Rattle.field.proofs.Laws.{kept_wider, one_digit, put_num-byte}
use Rattle.store.specs.Store.{Write, Store, apply, apply_if, number}
use Rattle.store.specs.Where.{WriteIn, Range}
use Rattle.store.proofs.OnlyLaws.{number_in}
use Rattle.store.proofs.StoreLaws.{number_at, number-bytes, apply-number, apply-one, apply_if-number, apply_if-yes, apply_if_no}
use Rattle.volume.specs.declared.Geometry.{Geometry}
use Rattle.volume.specs.declared.Count.{Count}
use Rattle.volume.specs.Volume.{sb_at, cg_at, count_place, total_place, put_count, put_total}
use Rattle.volume.proofs.Laws.{count-place, total-place, kept-put_count, kept-put_total, put_count-is, put_total-is}
use Rattle.bits.specs.Bits.{bit_at, put_bits, put_bits_at}
use Rattle.bits.proofs.BitsLaws.{put-one, put_bits_at-is, put_bits_at-set, kept-put_bits_at, bit_at-inside, bit_at-outside}
use Rattle.sound.specs.Sound.{group_at, free_at}
use Rattle.frame.specs.Frame.{Never, Frame, Spots}
use Rattle.frame.specs.Writes.{map_write, count_write, total_write, up, down}
use Rattle.frame.proofs.Places.{spots}
use Rattle.frame.proofs.Stores.{counts-frame, totals-frame, map_frame}

module _ (geo : Geometry) where
  pub count-write-is : (g : ℕ) (c : Count) (v : ℕ) → count_write geo g c v ≡ number geo.order 4 (cg_at geo g + count_place c) v
  unfolding count_write
  count-write-is g c v = refl

  pub total-write-is : (c : Count) (v : ℕ) → total_write geo c v ≡ number geo.order 8 (sb_at + total_place c) v
  unfolding total_write
  total-write-is c v = refl

module _ (geo : Geometry) (img : List ℕ) where
  pub apply-count : (g : ℕ) (c : Count) (v : ℕ) → apply (count_write geo g c v ∷ []) img ≡ put_count geo.order c (cg_at geo g) v img
  unfolding count_write
  apply-count g c v = apply-number geo.order 4 (cg_at geo g + count_place c) v img ∙ sym (put_count-is geo.order c (cg_at geo g) v img)

  pub apply-total : (c : Count) (v : ℕ) → apply (total_write geo c v ∷ []) img ≡ put_total geo.order c v img
  unfolding total_write
  apply-total c v = apply-number geo.order 8 (sb_at + total_place c) v img ∙ sym (put_total-is geo.order c v img)

  pub apply-map : (v g f n : ℕ) → apply (map_write v geo g f n img ∷ []) img ≡ put_bits_at v img (free_at geo g img) f n
  unfolding map_write
  apply-map v g f n = apply-one (map_write v geo g f n img) img ∙ sym (put_bits_at-is v img (free_at geo g img) f n)

  -- a map byte as a number of one byte, as the code stores it
  pub map-write-number : (v g f n p x : ℕ) → p ≡ free_at geo g img + f / 8 → x ≡ put_bits v n (f % 8) (get_or img (free_at geo g img + f / 8) 0) → x < 256 → map_write v geo g f n img ≡ number geo.order 1 p x
  unfolding map_write
  map-write-number v g f n p x ep ex b =
      λ i. record { at = (sym ep ∙ sym (number_at geo.order 1 p x)) i; bytes = (ap (λ (y : ℕ). y ∷ []) (sym ex) ∙ sym (number-bytes geo.order 1 p x ∙ one_digit geo.order x b)) i }

  -- a map byte written over one of the same run, shorter or longer
  pub apply-map-over : (v g f n m : ℕ) → apply (map_write v geo g f n img ∷ []) (put_bits_at v img (free_at geo g img) f m) ≡ put_bits_at v img (free_at geo g img) f n
  unfolding map_write
  apply-map-over v g f n m =
      let at = free_at geo g img in
      apply-one (map_write v geo g f n img) (put_bits_at v img at f m)
      ∙ put-one (at + f / 8) (put_bits v n (f % 8) (get_or img (at + f / 8) 0)) (put_bits_at v img at f m)
      ∙ ap (λ (xs : List ℕ). set xs (at + f / 8) (put_bits v n (f % 8) (get_or img (at + f / 8) 0))) (put_bits_at-set v img at f m)
      ∙ set-set img (at + f / 8) _ _
      ∙ sym (put_bits_at-set v img at f n)

  -- a map byte as code stores it, into any image
  pub apply_if-map : (go : Bool) (o : Order) (v g f n b : ℕ) (ys : List ℕ) → b ≡ put_bits v n (f % 8) (get_or img (free_at geo g img + f / 8) 0) → b < 256
      → apply_if go (number o 1 (free_at geo g img + f / 8) b ∷ []) ys ≡ apply_if go (map_write v geo g f n img ∷ []) ys
  unfolding map_write
  apply_if-map true o v g f n b ys e l =
      apply_if-number o 1 (free_at geo g img + f / 8) b {go = true} refl ys ∙ put_num-byte o (free_at geo g img + f / 8) b ys l
      ∙ ap (set ys (free_at geo g img + f / 8)) e
      ∙ sym (apply_if-yes {go = true} refl (map_write v geo g f n img ∷ []) ys ∙ apply-one (map_write v geo g f n img) ys ∙ put-one (free_at geo g img + f / 8) _ ys)
  apply_if-map false o v g f n b ys e l = apply_if_no {go = false} refl _ ys ∙ sym (apply_if_no {go = false} refl _ ys)

-- ---- counts, modulo 256 ^ w, and where they do not wrap

pub up-is : (w x d : ℕ) → up w x d ≡ (x + d) % 256 ^ w
unfolding up
up-is w x d = refl

pub down-is : (w x d : ℕ) → down w x d ≡ (x + (256 ^ w - d)) % 256 ^ w
unfolding down
down-is w x d = refl

pub up-fits : (w x d : ℕ) → x + d < 256 ^ w → up w x d ≡ x + d
up-fits w x d h = up-is w x d ∙ mod-eq_of_lt h

pub down-fits : (w x d : ℕ) → d ≤ x → x < 256 ^ w → down w x d + d ≡ x
down-fits w x d l h =
    let e : x + (256 ^ w - d) ≡ x - d + 256 ^ w = omega arith in
    rw (down-is w x d, e, add-mod_right (x - d) (256 ^ w), mod-eq_of_lt {n = x - d} {m = 256 ^ w} (omega arith)) (omega arith)

-- the bytes of each
pub count_in : {Q : ℕ → Type 0} (geo : Geometry) (g : ℕ) (c : Count) (v : ℕ) → ((j : ℕ) → Range (cg_at geo g + count_place c) 4 j → Q j) → WriteIn Q (count_write geo g c v)
unfolding count_write
count_in geo g c v h = number_in geo.order 4 (cg_at geo g + count_place c) v h

pub total_in : {Q : ℕ → Type 0} (geo : Geometry) (c : Count) (v : ℕ) → ((j : ℕ) → Range (sb_at + total_place c) 8 j → Q j) → WriteIn Q (total_write geo c v)
unfolding total_write
total_in geo c v h = number_in geo.order 8 (sb_at + total_place c) v h

-- a store that is made or not keeps the frame if the store does
pub frame_if : (geo : Geometry) (img : List ℕ) (go : Bool) (s : Store) → Frame geo img → Frame geo (apply s img) → Frame geo (apply_if go s img)
frame_if geo img true s fr fs = rw (apply_if-yes {go = true} refl s img) fs
frame_if geo img false s fr fs = rw (apply_if_no {go = false} refl s img) fr

module _ (geo : Geometry) (img : List ℕ) (fr : Frame geo img) where
  pub count-frame : (g : ℕ) (c : Count) (v : ℕ) → g < geo.ncg → Frame geo (apply (count_write geo g c v ∷ []) img)
  count-frame g c v l =
      let q = count-place c in
      rw (apply-count geo img g c v) (counts-frame geo img fr g (count_place c) 4 _ l q.0 q.1 (kept-put_count geo.order c (cg_at geo g) v img))

  pub total-frame : (c : Count) (v : ℕ) → Frame geo (apply (total_write geo c v ∷ []) img)
  total-frame c v =
      let q = total-place c in
      rw (apply-total geo img c v) (totals-frame geo img fr (total_place c) 8 _ q.0 q.1 (kept-put_total geo.order c v img))

  -- bits of fragments that may be free, made v
  pub bits-frame-at : (v g f n : ℕ) → v < 2 → g < geo.ncg → f % 8 + n ≤ 8 → f + n ≤ (group_at geo g img).ndblk → 0 < n
      → ((k : ℕ) → k < n → Never geo g img (f + k) → ⊥) → Frame geo (put_bits_at v img (free_at geo g img) f n)
  bits-frame-at v g f n two l b w some free =
      let s = spots geo img fr g l in
      let at = free_at geo g img in
      map_frame geo img fr g (put_bits_at v img at f n) l
      (kept_wider at (((group_at geo g img).ndblk + 7) / 8) (omega arith) (omega arith) (kept-put_bits_at v img at f n))
      (λ x nv. bit_at-outside v img at f n two b (omega arith) x (outside x nv (dec_lt x f) (dec_lt x (f + n))) ∙ fr.never g l x nv)
    where
      outside : (x : ℕ) → Never geo g img x → Dec (x < f) → Dec (x < f + n) → (x < f) ⊎ (f + n ≤ x)
      outside x nv (yes h) d = inl h
      outside x nv (no h) (no q) = inr (omega arith)
      outside x nv (no h) (yes q) = let e : f + (x - f) ≡ x = omega arith in absurd (free (x - f) (omega arith) (subst (λ (y : ℕ). Never geo g img y) (sym e) nv))

  pub map-write-frame : (v g f n : ℕ) → v < 2 → g < geo.ncg → f % 8 + n ≤ 8 → f + n ≤ (group_at geo g img).ndblk → 0 < n
      → ((k : ℕ) → k < n → Never geo g img (f + k) → ⊥) → Frame geo (apply (map_write v geo g f n img ∷ []) img)
  map-write-frame v g f n two l b w some free = rw (apply-map geo img v g f n) (bits-frame-at v g f n two l b w some free)

  -- bits made 0 keep the frame wherever they stand
  pub clear-write-frame : (g f n : ℕ) → g < geo.ncg → f % 8 + n ≤ 8 → f + n ≤ (group_at geo g img).ndblk → 0 < n → Frame geo (apply (map_write 0 geo g f n img ∷ []) img)
  clear-write-frame g f n l b w some =
      let s = spots geo img fr g l in
      let at = free_at geo g img in
      rw (apply-map geo img 0 g f n)
      (map_frame geo img fr g (put_bits_at 0 img at f n) l
      (kept_wider at (((group_at geo g img).ndblk + 7) / 8) (omega arith) (omega arith) (kept-put_bits_at 0 img at f n))
      (λ x nv. bit x nv (dec_lt x f) (dec_lt x (f + n))))
    where
      bit : (x : ℕ) → Never geo g img x → Dec (x < f) → Dec (x < f + n) → bit_at (put_bits_at 0 img (free_at geo g img) f n) (free_at geo g img) x ≡ 0
      bit x nv (yes h) d = let s = spots geo img fr g l in bit_at-outside 0 img (free_at geo g img) f n (omega arith) b (omega arith) x (inl h) ∙ fr.never g l x nv
      bit x nv (no h) (no q) = let s = spots geo img fr g l in bit_at-outside 0 img (free_at geo g img) f n (omega arith) b (omega arith) x (inr (omega arith)) ∙ fr.never g l x nv
      bit x nv (no h) (yes q) = let s = spots geo img fr g l in bit_at-inside 0 img (free_at geo g img) f n (omega arith) b (omega arith) x (omega arith) q
