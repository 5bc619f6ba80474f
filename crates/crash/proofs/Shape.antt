-- A call's stores are map bytes and then counts, all of them small: what holds at each cut of such a list. Assumes nothing.
use mathlib.Core.Path.{◌≡◌, refl, sym, ap, subst, ◌∙◌}
use mathlib.Core.List.{List, [], ◌∷◌, ◌++◌}
use mathlib.Core.Logic.{◌⊎◌, inl, inr, ⊎_elim}
use Prim.Native.Nat.{ℕ, zero, suc, ◌+◌, ◌-◌, ◌*◌, ◌/◌, ◌%◌, ◌^◌, ◌≤◌, ◌<◌}
use native.Mathlib.Omega.{arith}
use native.Mathlib.Decide.{ℕ_discrete, dec_lt}
use lib.ListN.{length, get_or, take}
use lib.IntN.{nat_abs}
use Rattle.field.specs.Field.{Kept}
use Rattle.store.specs.Store.{Write, Store, apply, apply_all, cut}
use Rattle.store.specs.Where.{All, none, more, Range, WriteIn, StoreIn, Only, KeptBut}
use Rattle.store.proofs.StoreLaws.{apply-none, apply_append, apply_all-none, apply_all-one, apply_all_append}
use Rattle.store.proofs.WhereLaws.{all-take, all-more}
use Rattle.store.proofs.OnlyLaws.{only-all}
use Rattle.store.proofs.CutLaws.{cut-is, cut_append}
use Rattle.volume.specs.declared.Geometry.{Geometry}
use Rattle.volume.specs.declared.Group.{Group}
use Rattle.volume.specs.declared.Count.{Count}
use Rattle.volume.specs.declared.Count.TheVariants.{Nbfree, Nifree, Nffree}
use Rattle.volume.specs.Volume.{sb_at, byte_at, cg_at, count_place, count_at, total_place, total_at, put_count, put_total}
use Rattle.volume.specs.Signed.{signed}
use Rattle.volume.proofs.SignedLaws.{signed-pos}
use Rattle.volume.proofs.Laws.{count-place, total-place, counts-apart, total-count, count-put_count, kept-put_count, kept-count, total-put_total, kept-put_total, kept-total, kept-group}
use Rattle.bits.specs.Bits.{bit_at}
use Rattle.sound.specs.Sound.{group_at, free_at}
use Rattle.frame.specs.Frame.{Frame, Spots, Outside}
use Rattle.frame.specs.Writes.{count_write, total_write}
use Rattle.frame.proofs.Places.{spots}
use Rattle.frame.proofs.Stores.{record_apart, fields-apart, FieldsApart}
use Rattle.frame.proofs.SoundKept.{Marked, Bounded, marked-kept, bounded-kept, area-marks, area-counts}
use Rattle.frame.proofs.WriteLaws.{apply-count, apply-total, count_in, total_in}
use Rattle.balloc_take.proofs.TakeLaws.{Keeps, keeps_count, keeps_total, keeps_cut}
use Rattle.balloc_count.specs.Recount.{Recounted, CountByte, of_group, of_totals}
use Rattle.balloc_count.proofs.CountsLaws.{group-kept, map-kept, marked-same}
use Rattle.crash.specs.Crash.{MagicApart}

-- ---- a small number written to a count or a total

pub data SmallWrite (geo : Geometry) : Write → Type 0 where
  count : (g : ℕ) (c : Count) (v : ℕ) → g < geo.ncg → Recounted c → v ≤ 4194304 → SmallWrite geo (count_write geo g c v)
  total : (c : Count) (v : ℕ) → Recounted c → v ≤ 4194304 → SmallWrite geo (total_write geo c v)

small_keeps : (geo : Geometry) (w : Write) → SmallWrite geo w → Keeps geo w
small_keeps geo w (count g c v l r s) = keeps_count geo g c v l
small_keeps geo w (total c v r s) = keeps_total geo c v

small_in : (geo : Geometry) (w : Write) → SmallWrite geo w → WriteIn (CountByte geo) w
small_in geo w (count g c v l r s) = count_in geo g c v (λ j q. of_group g c l r q)
small_in geo w (total c v r s) = total_in geo c v (λ j q. of_totals c r q)

small-number : (n v b : ℕ) → v + v < 256 ^ n → v ≤ b → nat_abs (signed n v) ≤ b
small-number n v b h l = rw (signed-pos n v h) l

same-count : (c d : Count) → Dec (c ≡ d)
same-count Nbfree Nbfree = yes refl
same-count Nifree Nifree = yes refl
same-count Nffree Nffree = yes refl
same-count Nbfree Nifree = no (λ e. let z : ◌≡◌ {A = ℕ} 0 1 = cc in let y : ⊥ = omega arith in y)
same-count Nbfree Nffree = no (λ e. let z : ◌≡◌ {A = ℕ} 0 1 = cc in let y : ⊥ = omega arith in y)
same-count Nifree Nbfree = no (λ e. let z : ◌≡◌ {A = ℕ} 0 1 = cc in let y : ⊥ = omega arith in y)
same-count Nifree Nffree = no (λ e. let z : ◌≡◌ {A = ℕ} 0 1 = cc in let y : ⊥ = omega arith in y)
same-count Nffree Nbfree = no (λ e. let z : ◌≡◌ {A = ℕ} 0 1 = cc in let y : ⊥ = omega arith in y)
same-count Nffree Nifree = no (λ e. let z : ◌≡◌ {A = ℕ} 0 1 = cc in let y : ⊥ = omega arith in y)

module _ (geo : Geometry) (img : List ℕ) (fr : Frame geo img) (b : Bounded geo img) where
  count-bounded : (g : ℕ) (c : Count) (v : ℕ) → g < geo.ncg → v ≤ 4194304 → Bounded geo (put_count geo.order c (cg_at geo g) v img)
  count-bounded g c v l s =
      record {
        counts = λ h lh d. at h lh d (ℕ_discrete g h) (same-count c d);
        totals = λ d. let q = count-place c in let p = total-place d in let t = spots geo img fr g l in
            rw (kept-total (kept-put_count geo.order c (cg_at geo g) v img) geo.order d (inl (omega arith))) (b.totals d);
      }
    where
      other : (h : ℕ) → h < geo.ncg → (d : Count) → (g ≡ h → c ≡ d → ⊥) → nat_abs (signed 4 (count_at geo.order d (cg_at geo h) (put_count geo.order c (cg_at geo g) v img))) ≤ 2 ^ 31 - 9
      other h lh d n =
          let p = count-place c in
          let q = count-place d in
          let s = spots geo img fr g l in
          let t = spots geo img fr h lh in
          rw (kept-count (kept-put_count geo.order c (cg_at geo g) v img) geo.order d (cg_at geo h)
          (record_apart geo img fr g (count_place c) 4 h (count_place d) 4 l lh (omega arith) (omega arith) (λ e. ⊎_elim (λ x. inr x) (λ x. inl x) (counts-apart c d (n e))))) (b.counts h lh d)

      at : (h : ℕ) → h < geo.ncg → (d : Count) → Dec (g ≡ h) → Dec (c ≡ d) → nat_abs (signed 4 (count_at geo.order d (cg_at geo h) (put_count geo.order c (cg_at geo g) v img))) ≤ 2 ^ 31 - 9
      at h lh d (yes e) (yes f) =
          let t = spots geo img fr g l in
          rw (← e, ← f, count-put_count geo.order c (cg_at geo g) v img (omega arith) (omega arith)) (small-number 4 v (2 ^ 31 - 9) (omega arith) (omega arith))
      at h lh d (yes e) (no f) = other h lh d (λ _ q. f q)
      at h lh d (no e) f = other h lh d (λ q _. e q)

  total-bounded : (c : Count) (v : ℕ) → v ≤ 4194304 → Bounded geo (put_total geo.order c v img)
  total-bounded c v s =
      record {
        counts = λ h lh d. let q = total-place c in let p = count-place d in let t = spots geo img fr h lh in
            rw (kept-count (kept-put_total geo.order c v img) geo.order d (cg_at geo h) (inr (omega arith))) (b.counts h lh d);
        totals = λ d. at d (same-count c d);
      }
    where
      at : (d : Count) → Dec (c ≡ d) → nat_abs (signed 8 (total_at geo.order d (put_total geo.order c v img))) ≤ 2 ^ 62
      at d (yes f) = rw (← f, total-put_total geo.order c v img (omega arith) fr.laid.low) (small-number 8 v (2 ^ 62) (omega arith) (omega arith))
      at d (no f) =
          rw (kept-total (kept-put_total geo.order c v img) geo.order d
          (⊎_elim (λ x. inr (omega (arith, total-count c, total-count d, count-place c, count-place d))) (λ x. inl (omega (arith, total-count c, total-count d, count-place c, count-place d))) (counts-apart c d f))) (b.totals d)

  small-bounded : (w : Write) → SmallWrite geo w → Bounded geo (apply (w ∷ []) img)
  small-bounded w (count g c v l r s) = rw (apply-count geo img g c v) (count-bounded g c v l s)
  small-bounded w (total c v r s) = rw (apply-total geo img c v) (total-bounded c v s)

-- ---- small writes, store by store

-- a frame with its counts within their bounds
pub record Held (geo : Geometry) (img : List ℕ) : Type 0 where
  pub frame : Frame geo img
  pub bounded : Bounded geo img

small-store : (geo : Geometry) {s : Store} → All (SmallWrite geo) s → (img : List ℕ) → Held geo img → Held geo (apply s img)
small-store geo none img h = rw (apply-none img) h
small-store geo {s = w ∷ s} (more p ps) img h =
    rw (apply_append (w ∷ []) s img)
    (small-store geo ps (apply (w ∷ []) img) (record { frame = small_keeps geo w p img h.frame; bounded = small-bounded geo img h.frame h.bounded w p }))

small-all : (geo : Geometry) {ss : List Store} → All (All (SmallWrite geo)) ss → (img : List ℕ) → Held geo img → Held geo (apply_all ss img)
small-all geo none img h = rw (apply_all-none img) h
small-all geo {ss = s ∷ ss} (more p ps) img h = rw (apply_all_append (s ∷ []) ss img, apply_all-one s img) (small-all geo ps (apply s img) (small-store geo p img h))

small-only : (geo : Geometry) {ss : List Store} → All (All (SmallWrite geo)) ss → Only (CountByte geo) ss
small-only geo p = record { every = all-more (λ s q. all-more (λ w r. small_in geo w r) q) p }

-- ---- a list of map bytes of group g and then of small counts

pub record Shaped (geo : Geometry) (z : List ℕ) (maps counts : List Store) : Type 0 where
  pub group : ℕ
  pub in_volume : group < geo.ncg
  pub mids : (i : ℕ) → Frame geo (cut i maps z) × Kept (free_at geo group z) (((group_at geo group z).ndblk + 7) / 8) z (cut i maps z)
  pub small : All (All (SmallWrite geo)) counts

-- what holds of an image x on the way from z: y has its map
pub record Between (geo : Geometry) (z y x : List ℕ) : Type 0 where
  pub long : length x ≡ length z
  pub held : Held geo x
  pub marked : Marked geo x
  pub groups : (h : ℕ) → h < geo.ncg → group_at geo h x ≡ group_at geo h z
  pub map : (h : ℕ) → h < geo.ncg → (f : ℕ) → f < (group_at geo h z).ndblk → bit_at x (free_at geo h z) f ≡ bit_at y (free_at geo h z) f
  pub other : (j : ℕ) → ((h : ℕ) → h < geo.ncg → Range (free_at geo h z) (((group_at geo h z).ndblk + 7) / 8) j → ⊥) → (CountByte geo j → ⊥) → get_or x j 0 ≡ get_or z j 0

module _ (geo : Geometry) (z : List ℕ) (fr : Frame geo z) (b : Bounded geo z) (m : Marked geo z) (apart : MagicApart geo z) where
  module _ (g : ℕ) (l : g < geo.ncg) (y : List ℕ) (fy : Frame geo y) (k : Kept (free_at geo g z) (((group_at geo g z).ndblk + 7) / 8) z y) where
    map-place : (cg_at geo g + 168 ≤ free_at geo g z) × (free_at geo g z + ((group_at geo g z).ndblk + 7) / 8 ≤ byte_at geo g geo.fpg)
    map-place = let s = spots geo z fr g l in (omega arith, omega arith)

    map-held : Held geo y
    map-held = record { frame = fy; bounded = bounded-kept geo _ _ z y k (area-counts geo z fr g _ _ l map-place.0 map-place.1) b }

    map-marked : Marked geo y
    map-marked = marked-kept geo _ _ z y k (area-marks geo z fr g _ _ l map-place.0 map-place.1 (apart g l)) m

    map-groups : (h : ℕ) → h < geo.ncg → group_at geo h y ≡ group_at geo h z
    map-groups h lh =
        let s = spots geo z fr g l in
        let f = fields-apart geo z fr g (group_at geo g z).freeoff (((group_at geo g z).ndblk + 7) / 8) l (omega arith) (omega arith, inr (omega arith)) in
        kept-group k geo.order (cg_at geo h) (⊎_elim (λ x. inl (omega arith)) (λ x. inr (omega arith)) (f.ndblk h lh)) (⊎_elim (λ x. inl (omega arith)) (λ x. inr (omega arith)) (f.offsets h lh))

    map_other : (j : ℕ) → ((h : ℕ) → h < geo.ncg → Range (free_at geo h z) (((group_at geo h z).ndblk + 7) / 8) j → ⊥) → get_or y j 0 ≡ get_or z j 0
    map_other j n = k.byte j (out (dec_lt j (free_at geo g z)) (dec_lt j (free_at geo g z + ((group_at geo g z).ndblk + 7) / 8)))
      where
        out : Dec (j < free_at geo g z) → Dec (j < free_at geo g z + ((group_at geo g z).ndblk + 7) / 8) → (j < free_at geo g z) ⊎ (free_at geo g z + ((group_at geo g z).ndblk + 7) / 8 ≤ j)
        out (yes p) q = inl p
        out (no p) (no q) = inr (omega arith)
        out (no p) (yes q) = absurd (n g l (omega arith, q))

    -- counts stored after the map
    pub counts-after : (counts : List Store) → All (All (SmallWrite geo)) counts → Between geo z y (apply_all counts y)
    counts-after counts p =
        let kc = only-all (small-only geo p) y in
        let same = map-groups in
        record {
          long = kc.long ∙ k.long;
          held = small-all geo p y map-held;
          marked = marked-same geo y (apply_all counts y) fy kc map-marked;
          groups = λ h lh. group-kept geo y (apply_all counts y) fy kc h lh ∙ same h lh;
          map = λ h lh f lf. subst (λ (x : ℕ). bit_at (apply_all counts y) x f ≡ bit_at y x f) (ap (λ (r : Group). cg_at geo h + r.freeoff) (same h lh)) (map-kept geo y (apply_all counts y) fy kc h lh f (rw (same h lh) (omega arith)));
          other = λ j n c. kc.byte j c ∙ map_other j n;
        }

  -- every cut of the whole list
  pub shaped-cut : (maps counts : List Store) → Shaped geo z maps counts → (k : ℕ) → Between geo z (cut k maps z) (cut k (maps ++ counts) z)
  shaped-cut maps counts s k =
      let mid = s.mids k in
      rw (cut_append k maps counts z, cut-is (k - length maps) counts (cut k maps z))
      (counts-after s.group s.in_volume (cut k maps z) mid.0 mid.1 (take (k - length maps) counts) (all-take (k - length maps) s.small))

  -- and the groups' records are as they were, also where only some of the map bytes are stored
  pub shaped-groups : (maps counts : List Store) → Shaped geo z maps counts → (k h : ℕ) → h < geo.ncg → group_at geo h (cut k maps z) ≡ group_at geo h z
  shaped-groups maps counts s k h l = map-groups s.group s.in_volume (cut k maps z) (s.mids k).0 (s.mids k).1 h l
