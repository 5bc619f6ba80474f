-- A block given is a run, so that zeros or data stored there keep the layout. Assumes nothing.
use mathlib.Core.Path.{◌≡◌, sym, ap, subst, ◌∙◌}
use mathlib.Core.List.{List, [], ◌∷◌}
use mathlib.Core.Logic.{◌⊎◌, inl, inr}
use Prim.Native.Nat.{ℕ, ◌+◌, ◌-◌, ◌*◌, ◌/◌, ◌%◌, ◌≤◌, ◌<◌}
use native.Mathlib.Nat.{mul-add-div_right, mul-add-mod_self_right, div-eq_of_lt, mod-eq_of_lt, mul_comm}
use native.Mathlib.Omega.{arith}
use native.Mathlib.Decide.{dec_le, ℕ_discrete}
use Rattle.field.specs.Field.{zeros}
use Rattle.field.proofs.Laws.{length-zeros}
use Rattle.store.specs.Store.{Store, apply, apply_all}
use Rattle.store.specs.Where.{none, more, WriteIn, StoreIn, Range}
use Rattle.store.specs.Act.{Out, got, pure, leaves, Always}
use Rattle.store.proofs.ActLaws.{left-image, left_out}
use Rattle.store.proofs.AlwaysLaws.{always-all, always-bind, always-pure, always-store-bind}
use Rattle.store.proofs.OnlyLaws.{kept-store}
use Rattle.volume.specs.declared.Geometry.{Geometry}
use Rattle.sound.specs.Clauses.{reserved_from}
use Rattle.sound.specs.Sound.{free_at}
use Rattle.sound.proofs.Laws.{reserved-within, reserved-later}
use Rattle.bits.specs.Bits.{bit_at}
use Rattle.bits.proofs.BitsLaws.{frag-some, free-bits, bits_at}
use Rattle.frame.specs.Frame.{Frame, RunOk}
use Rattle.inode.proofs.SizeLaws.{units}
use Rattle.balloc_give.specs.Give.{give_block, give_zeroed, zero_write, block_address}
use Rattle.balloc_give.proofs.GiveLaws.{IsChosen, block_inside}
use Rattle.balloc_give.proofs.Theorems.{given-first}
use Rattle.books.specs.Books.{Steady}
use Rattle.books.proofs.SteadyLaws.{steady-refl, steady-trans, run-steady, give-steady}
use Rattle.books.proofs.KeepLaws.{Keeps, keeps_from}

module _ (geo : Geometry) (img : List ℕ) (fr : Frame geo img) where
  -- ---- a block that is free is a run

  module _ (g h : ℕ) (i : IsChosen geo img g h) where
    free-bit : (k : ℕ) → k < geo.frag → bit_at img (free_at geo g img) (geo.frag * h + k) ≡ 1
    free-bit k l = bits_at 1 img (free_at geo g img) (geo.frag * h) geo.frag k (sym (free-bits geo.frag img (free_at geo g img) h) ∙ i.free) l

    -- a reserved fragment is not free
    not-reserved : (x : ℕ) → geo.frag * h ≤ x → x < geo.frag * h + geo.frag → reserved_from geo g ≤ x → x < geo.dblkno → ⊥
    not-reserved x lo hi from below =
        let kept : (geo.frag * h + (x - geo.frag * h)) ≡ x = omega arith in
        let one = ap (bit_at img (free_at geo g img)) (sym kept) ∙ free-bit (x - geo.frag * h) (omega arith) in
        let nil = fr.never g i.group x (inr (below, side (ℕ_discrete g 0))) in
        let z : ◌≡◌ {A = ℕ} 0 1 = sym nil ∙ one in
        omega arith
      where
        side : Dec (g ≡ 0) → (g ≡ 0) ⊎ (geo.sblkno ≤ x)
        side (yes e) = inl e
        side (no e) = inr (let q = reserved-later geo g e in omega arith)

    block_apart : (geo.frag * h + geo.frag ≤ reserved_from geo g) ⊎ (geo.dblkno ≤ geo.frag * h)
    block_apart = by (dec_le (geo.frag * h + geo.frag) (reserved_from geo g)) (dec_le geo.dblkno (geo.frag * h))
      where
        low : reserved_from geo g < geo.dblkno
        low = omega (arith, reserved-within geo g, fr.laid.copy, fr.laid.record_first, fr.laid.later)

        by : Dec (geo.frag * h + geo.frag ≤ reserved_from geo g) → Dec (geo.dblkno ≤ geo.frag * h) → (geo.frag * h + geo.frag ≤ reserved_from geo g) ⊎ (geo.dblkno ≤ geo.frag * h)
        by (yes a) b = inl a
        by (no a) (yes b) = inr b
        by (no a) (no b) = absurd (inside (dec_le (geo.frag * h) (reserved_from geo g)))
          where
            inside : Dec (geo.frag * h ≤ reserved_from geo g) → ⊥
            inside (yes c) = not-reserved (reserved_from geo g) c (omega arith) (omega arith) low
            inside (no c) = not-reserved (geo.frag * h) (omega arith) (omega (arith, frag-some geo.frag fr.sizes.frag)) (omega arith) (omega arith)

    block_run : RunOk geo img (block_address geo g h) geo.frag
    unfolding block_address
    block_run =
        let w = block_inside geo img fr g h i.group i.block in
        let s = (fr.head g i.group).span in
        let l : geo.frag * h < geo.fpg = omega (arith, frag-some geo.frag fr.sizes.frag) in
        let q : (g * geo.fpg + geo.frag * h) / geo.fpg ≡ g = mul-add-div_right (omega arith) g (geo.frag * h) ∙ ap (λ (x : ℕ). g + x) (div-eq_of_lt l) ∙ omega arith in
        let r : (g * geo.fpg + geo.frag * h) % geo.fpg ≡ geo.frag * h = mul-add-mod_self_right g geo.fpg (geo.frag * h) ∙ mod-eq_of_lt l in
        record { group = rw q i.group; within = rw (q, r) w; apart = rw (q, r) block_apart }

  pub given-run : (a : ℕ) → (give_block geo img).out ≡ got a → RunOk geo img a geo.frag
  given-run a e = let t = given-first geo img a e in subst (λ (x : ℕ). RunOk geo img x geo.frag) (sym t.3) (block_run t.0 t.1 t.2)

-- ---- stores into a run

run-some : (geo : Geometry) (img : List ℕ) → Frame geo img → 0 < geo.frag
run-some geo img fr = frag-some geo.frag fr.sizes.frag

pub block-bytes : (geo : Geometry) (img : List ℕ) → Frame geo img → geo.frag * geo.fsize ≡ geo.bsize
block-bytes geo img fr = mul_comm geo.frag geo.fsize ∙ (units geo fr.sizes).frags

-- into a whole block
pub block-steady : (geo : Geometry) (img : List ℕ) → Frame geo img → (a : ℕ) → RunOk geo img a geo.frag → (s : Store) → StoreIn (Range (a * geo.fsize) geo.bsize) s → Steady geo img (apply s img)
block-steady geo img fr a r s o = run-steady geo img fr a geo.frag (apply s img) (run-some geo img fr) r (rw (block-bytes geo img fr) (kept-store o img))

zero_in : (geo : Geometry) (a : ℕ) → WriteIn (Range (a * geo.fsize) geo.bsize) (zero_write geo a)
unfolding zero_write
zero_in geo a = λ j lo hi. (lo, rw (length-zeros geo.bsize) at hi)

-- a run is one in every image that is laid out so
pub run-moves : (geo : Geometry) {start xs ys : List ℕ} → Steady geo start xs → Steady geo start ys → (a n : ℕ) → RunOk geo xs a n → RunOk geo ys a n
run-moves geo s t a n r = record { group = r.group; within = rw (t.groups (a / geo.fpg) r.group, ← s.groups (a / geo.fpg) r.group) r.within; apart = r.apart }

-- giving out keeps the layout, and the block stays a run
module _ (geo : Geometry) (img : List ℕ) (fr : Frame geo img) where
  pub after-give : Steady geo img (apply_all (give_block geo img).stores img)
  after-give = always-all (give-steady geo img fr)

  pub given_stays : (a : ℕ) → (give_block geo img).out ≡ got a → RunOk geo (apply_all (give_block geo img).stores img) a geo.frag
  given_stays a e = run-moves geo (steady-refl geo img fr) after-give a geo.frag (given-run geo img fr a e)

  -- the same of what code that gives out leaves
  pub given-left : {s : List ℕ} {o : Out ℕ} → (s, o) ≡ leaves (give_block geo) img → {a : ℕ} → o ≡ got a → RunOk geo s a geo.frag
  given-left r {a} g = subst (λ (x : List ℕ). RunOk geo x a geo.frag) (sym (left-image (give_block geo) img r)) (given_stays a (left_out (give_block geo) img r ∙ g))

  zeroed-always : Always (Steady geo img) (give_zeroed geo) img
  unfolding give_zeroed
  zeroed-always =
      always-bind (give-steady geo img fr)
      (λ a e.
      let s = after-give in
      always-store-bind (zero_write geo a ∷ []) (λ _. pure a) s
      (always-pure a (steady-trans geo s (block-steady geo _ s.frame a (given_stays a e) (zero_write geo a ∷ []) (more (zero_in geo a) none)))))

pub keeps_zeroed : (geo : Geometry) → Keeps geo (give_zeroed geo)
keeps_zeroed geo = keeps_from geo (give_zeroed geo) (λ img fr. zeroed-always geo img fr)
