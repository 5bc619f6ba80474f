-- The laws of the recount: its stores, the bytes they write, that the counts are true after them, and that counts alone never change what it leaves. Assumes nothing.
use mathlib.Core.Path.{◌≡◌, refl, sym, ap, subst, ◌∙◌}
use mathlib.Core.Bool.{true}
use mathlib.Core.List.{List, [], ◌∷◌}
use mathlib.Core.Logic.{◌⊎◌, inl, inr, ⊎_elim}
use Prim.Native.Nat.{ℕ, zero, suc, ◌+◌, ◌-◌, ◌^◌, ◌≤◌, ◌<◌}
use native.Mathlib.Nat.{eq-or-lt_of_le, le_of_suc-le-suc}
use native.Mathlib.Numerals.{add-one}
use native.Mathlib.Omega.{arith}
use lib.ListN.{length}
use lib.IntN.{nat_abs}
use Rattle.store.specs.Store.{Store, apply, apply_all}
use Rattle.store.specs.Where.{All, none, more, Apart, Outside, OutsideAll, WriteIn, StoreIn, Only, Range, KeptBut}
use Rattle.store.specs.Act.{got, Left, leaves}
use Rattle.store.proofs.StoreLaws.{apply_append, apply_all_append, apply_all-none, apply_all-one, length-apply_all}
use Rattle.store.proofs.WhereLaws.{all_parts, number_meets, apply_all_cover}
use Rattle.store.proofs.OnlyLaws.{number_in, only_none, only_stores, only-append, only-all}
use Rattle.volume.specs.declared.Geometry.{Geometry}
use Rattle.volume.specs.declared.Count.{Count}
use Rattle.volume.specs.declared.Count.TheVariants.{Nbfree, Nifree, Nffree}
use Rattle.volume.specs.Signed.{signed}
use Rattle.volume.specs.Volume.{sb_at, geometry_of, cg_at, count_place, count_at, put_count, total_place, total_at, put_total}
use Rattle.volume.proofs.SignedLaws.{signed-pos}
use Rattle.volume.proofs.Laws.{count-place, total-place, length-put_count, length-put_total, kept-put_count, kept-put_total, count-put_count, count-put_count-other, total-put_total, total-put_total-other, kept-count}
use Rattle.bits.specs.Upto.{sum}
use Rattle.bits.proofs.UptoLaws.{sum-none, sum-more}
use Rattle.sound.specs.Clauses.{soundb}
use Rattle.frame.specs.Frame.{Frame}
use Rattle.frame.specs.Frame as frame
use Rattle.frame.specs.Writes.{count_write, total_write}
use Rattle.frame.proofs.Places.{frame-of, spots}
use Rattle.frame.proofs.Stores.{record_apart}
use Rattle.frame.proofs.WriteLaws.{count-write-is, total-write-is, apply-count, apply-total}
use Rattle.frame.proofs.SoundKept.{Marked, Bounded, marked-of, bounded-of, sound_again}
use Rattle.balloc_count.specs.declared.Fresh.{Fresh}
use Rattle.balloc_count.specs.Recount.{blocks_of, loose_of, total_blocks, total_loose, TrueCounts, group_store, group_stores, total_store, recount_stores, recount_all, Recounted, CountByte, of_group, of_totals}
use Rattle.balloc_count.proofs.FreshLaws.{total-blocks-is, total-loose-is, blocks-small, loose-small, blocks-sum-small, loose-sum-small, total-blocks-small, total-loose-small}
use Rattle.balloc_count.proofs.CountsLaws.{frame_same, marked-same, nifree-kept, total-nifree-kept, blocks-kept, loose-kept, total-blocks-kept, total-loose-kept}

-- ---- the stores, as the code makes them

module _ (geo : Geometry) (img : List ℕ) where
  pub apply-group : (g : ℕ) (zs : List ℕ) → apply (group_store geo g img) zs ≡ put_count geo.order Nffree (cg_at geo g) (loose_of geo g img) (put_count geo.order Nbfree (cg_at geo g) (blocks_of geo g img) zs)
  unfolding group_store
  apply-group g zs =
      apply_append (count_write geo g Nbfree (blocks_of geo g img) ∷ []) (count_write geo g Nffree (loose_of geo g img) ∷ []) zs
      ∙ ap (apply (count_write geo g Nffree (loose_of geo g img) ∷ [])) (apply-count geo zs g Nbfree (blocks_of geo g img))
      ∙ apply-count geo _ g Nffree (loose_of geo g img)

  pub apply-totals : (zs : List ℕ) → apply (total_store geo img) zs ≡ put_total geo.order Nffree (total_loose geo img) (put_total geo.order Nbfree (total_blocks geo img) zs)
  unfolding total_store
  apply-totals zs =
      apply_append (total_write geo Nbfree (total_blocks geo img) ∷ []) (total_write geo Nffree (total_loose geo img) ∷ []) zs
      ∙ ap (apply (total_write geo Nffree (total_loose geo img) ∷ [])) (apply-total geo zs Nbfree (total_blocks geo img))
      ∙ apply-total geo _ Nffree (total_loose geo img)

  pub apply-groups-none : (zs : List ℕ) → apply_all (group_stores geo img 0) zs ≡ zs
  unfolding group_stores
  apply-groups-none zs = apply_all-none zs

  pub apply-groups-more : (n : ℕ) (zs : List ℕ) → apply_all (group_stores geo img (n + 1)) zs ≡ apply (group_store geo n img) (apply_all (group_stores geo img n) zs)
  unfolding group_stores
  apply-groups-more n zs = rw add-one (apply_all_append (group_stores geo img n) (group_store geo n img ∷ []) zs ∙ apply_all-one (group_store geo n img) (apply_all (group_stores geo img n) zs))

  pub apply-recount : (zs : List ℕ) → apply_all (recount_stores geo img) zs ≡ apply (total_store geo img) (apply_all (group_stores geo img geo.ncg) zs)
  unfolding recount_stores
  apply-recount zs = apply_all_append (group_stores geo img geo.ncg) (total_store geo img ∷ []) zs ∙ apply_all-one (total_store geo img) (apply_all (group_stores geo img geo.ncg) zs)

  pub recount-stores : (recount_all geo img).stores ≡ recount_stores geo img
  unfolding recount_all
  recount-stores = refl

  pub recount-out : (recount_all geo img).out ≡ got (record { nbfree = total_blocks geo img; nffree = total_loose geo img })
  unfolding recount_all
  recount-out = refl

  pub leaves-recount : leaves (recount_all geo) img ≡ (apply_all (recount_stores geo img) img, got (record { nbfree = total_blocks geo img; nffree = total_loose geo img }))
  unfolding leaves recount_all
  leaves-recount = refl

-- ---- they write count bytes alone

module _ (geo : Geometry) where
  pub count-write-in : (g : ℕ) (c : Count) (v : ℕ) → g < geo.ncg → Recounted c → WriteIn (CountByte geo) (count_write geo g c v)
  count-write-in g c v l r = rw (count-write-is geo g c v) (number_in geo.order 4 (cg_at geo g + count_place c) v (λ j q. of_group g c l r q))

  pub total-write-in : (c : Count) (v : ℕ) → Recounted c → WriteIn (CountByte geo) (total_write geo c v)
  total-write-in c v r = rw (total-write-is geo c v) (number_in geo.order 8 (sb_at + total_place c) v (λ j q. of_totals c r q))

module _ (geo : Geometry) (img : List ℕ) where
  group-in : (g : ℕ) → g < geo.ncg → StoreIn (CountByte geo) (group_store geo g img)
  unfolding group_store
  group-in g l = more (count-write-in geo g Nbfree (blocks_of geo g img) l (inl refl)) (more (count-write-in geo g Nffree (loose_of geo g img) l (inr refl)) none)

  totals-in : StoreIn (CountByte geo) (total_store geo img)
  unfolding total_store
  totals-in = more (total-write-in geo Nbfree (total_blocks geo img) (inl refl)) (more (total-write-in geo Nffree (total_loose geo img) (inr refl)) none)

  groups-only : (n : ℕ) → n ≤ geo.ncg → Only (CountByte geo) (group_stores geo img n)
  unfolding group_stores
  groups-only zero l = only_none
  groups-only (suc n) l = only-append (groups-only n (omega arith)) (only_stores (group-in n (omega arith)) only_none)

  pub recount-only : Only (CountByte geo) (recount_stores geo img)
  unfolding recount_stores
  recount-only = only-append (groups-only geo.ncg (omega arith)) (only_stores totals-in only_none)

  -- 01 names the fields: every other byte is as it was
  pub groups-kept : (n : ℕ) → n ≤ geo.ncg → KeptBut (CountByte geo) img (apply_all (group_stores geo img n) img)
  groups-kept n l = only-all (groups-only n l) img

  pub recount-kept : KeptBut (CountByte geo) img (apply_all (recount_stores geo img) img)
  recount-kept = only-all recount-only img

-- ---- and every one of them

all-head : {A : Type 0} {P : A → Type 0} {x : A} {xs : List A} → All P (x ∷ xs) → P x
all-head (more p ps) = p

module _ (geo : Geometry) (img : List ℕ) (j : ℕ) where
  count_meets : (g : ℕ) (c : Count) (v : ℕ) → Range (cg_at geo g + count_place c) 4 j → Apart j (count_write geo g c v) → ⊥
  count_meets g c v r a = number_meets geo.order 4 (cg_at geo g + count_place c) v r (rw (count-write-is geo g c v) at a)

  total-meets : (c : Count) (v : ℕ) → Range (sb_at + total_place c) 8 j → Apart j (total_write geo c v) → ⊥
  total-meets c v r a = number_meets geo.order 8 (sb_at + total_place c) v r (rw (total-write-is geo c v) at a)

  group-meets : (g : ℕ) (c : Count) → Recounted c → Range (cg_at geo g + count_place c) 4 j → Outside j (group_store geo g img) → ⊥
  unfolding group_store
  group-meets g c (inl e) r (more a (more b none)) = count_meets g Nbfree (blocks_of geo g img) (subst (λ (d : Count). Range (cg_at geo g + count_place d) 4 j) e r) a
  group-meets g c (inr e) r (more a (more b none)) = count_meets g Nffree (loose_of geo g img) (subst (λ (d : Count). Range (cg_at geo g + count_place d) 4 j) e r) b

  totals-meet : (c : Count) → Recounted c → Range (sb_at + total_place c) 8 j → Outside j (total_store geo img) → ⊥
  unfolding total_store
  totals-meet c (inl e) r (more a (more b none)) = total-meets Nbfree (total_blocks geo img) (subst (λ (d : Count). Range (sb_at + total_place d) 8 j) e r) a
  totals-meet c (inr e) r (more a (more b none)) = total-meets Nffree (total_loose geo img) (subst (λ (d : Count). Range (sb_at + total_place d) 8 j) e r) b

  groups-meet : (n g : ℕ) (c : Count) → g < n → Recounted c → Range (cg_at geo g + count_place c) 4 j → OutsideAll j (group_stores geo img n) → ⊥
  unfolding group_stores
  groups-meet zero g c l rc r o = omega arith
  groups-meet (suc n) g c l rc r o =
      let p = all_parts (group_stores geo img n) o in
      ⊎_elim (λ e. group-meets n c rc (subst (λ (h : ℕ). Range (cg_at geo h + count_place c) 4 j) e r) (all-head p.1))
      (λ m. groups-meet n g c m rc r p.0) (eq-or-lt_of_le (le_of_suc-le-suc l))

  recount-meets : CountByte geo j → OutsideAll j (recount_stores geo img) → ⊥
  unfolding recount_stores
  recount-meets (of_group g c l rc r) o = groups-meet geo.ncg g c l rc r (all_parts (group_stores geo img geo.ncg) o).0
  recount-meets (of_totals c rc r) o = totals-meet c rc r (all-head (all_parts (group_stores geo img geo.ncg) o).1)

-- ---- two images that differ in count bytes alone are one after it

module _ (geo : Geometry) (xs ys : List ℕ) (fr : Frame geo xs) (k : KeptBut (CountByte geo) xs ys) where
  group-store-same : (g : ℕ) → g < geo.ncg → group_store geo g ys ≡ group_store geo g xs
  unfolding group_store
  group-store-same g l = rw (blocks-kept geo xs ys fr k g l, loose-kept geo xs ys fr k g l)

  groups-same : (n : ℕ) → n ≤ geo.ncg → group_stores geo ys n ≡ group_stores geo xs n
  unfolding group_stores
  groups-same zero l = refl
  groups-same (suc n) l = rw (groups-same n (omega arith), group-store-same n (omega arith))

  pub recount-stores-same : recount_stores geo ys ≡ recount_stores geo xs
  unfolding recount_stores total_store
  recount-stores-same = rw (groups-same geo.ncg (omega arith), total-blocks-kept geo xs ys fr k, total-loose-kept geo xs ys fr k)

  pub recount-same : apply_all (recount_stores geo xs) xs ≡ apply_all (recount_stores geo ys) ys
  recount-same =
      apply_all_cover (recount_stores geo xs) xs ys (sym k.long) (λ j o. sym (k.byte j (λ q. recount-meets geo xs j q o)))
      ∙ ap (λ (ss : List Store). apply_all ss ys) (sym recount-stores-same)

-- ---- as the code walks: the groups below g have their counts, and these sums were met

pub record Passed (geo : Geometry) (start img : List ℕ) (nbfree nffree g : ℕ) : Type 0 where
  pub within : g ≤ geo.ncg
  pub image : img ≡ apply_all (group_stores geo start g) start
  pub blocks : nbfree ≡ sum (λ (h : ℕ). blocks_of geo h start) g
  pub loose : nffree ≡ sum (λ (h : ℕ). loose_of geo h start) g

pub passed-none : (geo : Geometry) (img : List ℕ) → Passed geo img img 0 0 0
passed-none geo img = record { within = omega arith; image = sym (apply-groups-none geo img img); blocks = sym (sum-none _); loose = sym (sum-none _) }

module _ {geo : Geometry} {start img : List ℕ} {nbfree nffree g : ℕ} (fr : Frame geo start) (p : Passed geo start img nbfree nffree g) where
  passed-kept : KeptBut (CountByte geo) start img
  passed-kept = rw p.image (groups-kept geo start g p.within)

  pub passed-frame : Frame geo img
  passed-frame = frame_same geo start img fr passed-kept

  pub passed-long : length img ≡ length start
  passed-long = passed-kept.long

  -- one group more
  pub passed-more : {next : List ℕ} {b f : ℕ} → g < geo.ncg → next ≡ apply (group_store geo g img) img → b ≡ blocks_of geo g img → f ≡ loose_of geo g img
      → Passed geo start next (nbfree + b) (nffree + f) (g + 1)
  passed-more {next} {b} {f} l e eb ef = record {
    within = omega arith;
    image =
        e
        ∙ ap (λ (s : Store). apply s img) (group-store-same geo start img fr passed-kept g l)
        ∙ ap (apply (group_store geo g start)) p.image
        ∙ sym (apply-groups-more geo start g start);
    blocks = omega (arith, p.blocks, eb, blocks-kept geo start img fr passed-kept g l, sum-more (λ (h : ℕ). blocks_of geo h start) g);
    loose = omega (arith, p.loose, ef, loose-kept geo start img fr passed-kept g l, sum-more (λ (h : ℕ). loose_of geo h start) g);
  }

  pub passed-fits : {b f : ℕ} → g < geo.ncg → b ≡ blocks_of geo g img → f ≡ loose_of geo g img → (nbfree + b ≤ 2097152) × (nffree + f ≤ 2097152)
  passed-fits l eb ef =
      let q = passed-more {next = apply (group_store geo g img) img} l refl eb ef in
      (omega (arith, q.blocks, blocks-sum-small geo start fr (g + 1) q.within), omega (arith, q.loose, loose-sum-small geo start fr (g + 1) q.within))

  -- the last group, and the totals
  pub passed-all : geo.ncg ≤ g → ◌≡◌ {A = Left Fresh} (put_total geo.order Nffree nffree (put_total geo.order Nbfree nbfree img), got (record { nbfree = nbfree; nffree = nffree })) (leaves (recount_all geo) start)
  passed-all l =
      let q : g ≡ geo.ncg = omega (arith, p.within) in
      let b : nbfree ≡ total_blocks geo start = p.blocks ∙ ap (sum (λ (h : ℕ). blocks_of geo h start)) q ∙ sym (total-blocks-is geo start) in
      let f : nffree ≡ total_loose geo start = p.loose ∙ ap (sum (λ (h : ℕ). loose_of geo h start)) q ∙ sym (total-loose-is geo start) in
      let i : img ≡ apply_all (group_stores geo start geo.ncg) start = p.image ∙ ap (λ (n : ℕ). apply_all (group_stores geo start n) start) q in
      rw (b, f, i) (rw (← (apply-totals geo start (apply_all (group_stores geo start geo.ncg) start)), ← (apply-recount geo start start)) (sym (leaves-recount geo start)))

-- ---- what is read after it

module _ (geo : Geometry) (img : List ℕ) (fr : Frame geo img) where
  -- a group's counts stored leave those of the others, and so do the totals
  group-elsewhere : (g h : ℕ) (c : Count) (zs : List ℕ) → g < geo.ncg → h < geo.ncg → (g ≡ h → ⊥)
      → count_at geo.order c (cg_at geo h) (apply (group_store geo g img) zs) ≡ count_at geo.order c (cg_at geo h) zs
  group-elsewhere g h c zs lg lh ne =
      let s = spots geo img fr g lg in
      let t = spots geo img fr h lh in
      let q = count-place c in
      let o : (d : Count) → frame.Outside (cg_at geo g + count_place d) 4 (cg_at geo h + count_place c) 4 = λ d.
      let p = count-place d in record_apart geo img fr g (count_place d) 4 h (count_place c) 4 lg lh (omega arith) (omega arith) (λ e. absurd (ne e)) in
      ap (count_at geo.order c (cg_at geo h)) (apply-group geo img g zs)
      ∙ kept-count (kept-put_count geo.order Nffree (cg_at geo g) (loose_of geo g img) _) geo.order c (cg_at geo h) (o Nffree)
      ∙ kept-count (kept-put_count geo.order Nbfree (cg_at geo g) (blocks_of geo g img) zs) geo.order c (cg_at geo h) (o Nbfree)

  totals-elsewhere : (h : ℕ) (c : Count) (zs : List ℕ) → h < geo.ncg → count_at geo.order c (cg_at geo h) (apply (total_store geo img) zs) ≡ count_at geo.order c (cg_at geo h) zs
  totals-elsewhere h c zs l =
      let s = spots geo img fr h l in
      ap (count_at geo.order c (cg_at geo h)) (apply-totals geo img zs)
      ∙ kept-count (kept-put_total geo.order Nffree (total_loose geo img) _) geo.order c (cg_at geo h) (let p = total-place Nffree in inr (omega arith))
      ∙ kept-count (kept-put_total geo.order Nbfree (total_blocks geo img) zs) geo.order c (cg_at geo h) (let p = total-place Nbfree in inr (omega arith))

  -- what is stored is read
  not_both : Nffree ≡ Nbfree → ⊥
  not_both e = let z : ◌≡◌ {A = ℕ} 0 1 = cc in omega arith

  group-read : (g : ℕ) (zs : List ℕ) → g < geo.ncg → length zs ≡ length img
      → (count_at geo.order Nbfree (cg_at geo g) (apply (group_store geo g img) zs) ≡ blocks_of geo g img) × (count_at geo.order Nffree (cg_at geo g) (apply (group_store geo g img) zs) ≡ loose_of geo g img)
  group-read g zs l e =
      let s = spots geo img fr g l in
      let ys = put_count geo.order Nbfree (cg_at geo g) (blocks_of geo g img) zs in
      let m = length-put_count geo.order Nbfree (cg_at geo g) (blocks_of geo g img) zs in
      rw (apply-group geo img g zs) (
        count-put_count-other geo.order Nffree (cg_at geo g) (loose_of geo g img) ys Nbfree not_both
            ∙ count-put_count geo.order Nbfree (cg_at geo g) (blocks_of geo g img) zs (omega (arith, blocks-small geo img fr g l)) (omega arith),
        count-put_count geo.order Nffree (cg_at geo g) (loose_of geo g img) ys (omega (arith, loose-small geo img fr g l)) (omega arith),
      )

  groups-read : (n : ℕ) → n ≤ geo.ncg → (g : ℕ) → g < n
      → (count_at geo.order Nbfree (cg_at geo g) (apply_all (group_stores geo img n) img) ≡ blocks_of geo g img) × (count_at geo.order Nffree (cg_at geo g) (apply_all (group_stores geo img n) img) ≡ loose_of geo g img)
  groups-read zero l g u = absurd (let z : ⊥ = omega arith in z)
  groups-read (suc n) l g u =
      let zs = apply_all (group_stores geo img n) img in
      rw (← (add-one n), apply-groups-more geo img n img)
      (⊎_elim (λ e. rw e (group-read n zs (omega arith) (length-apply_all (group_stores geo img n) img)))
      (λ m. let r = groups-read n (omega arith) g m in
      (group-elsewhere n g Nbfree zs (omega arith) (omega arith) (λ e. let z : ⊥ = omega arith in z) ∙ r.0, group-elsewhere n g Nffree zs (omega arith) (omega arith) (λ e. let z : ⊥ = omega arith in z) ∙ r.1))
      (eq-or-lt_of_le (le_of_suc-le-suc u)))

  totals-read : (zs : List ℕ) → length zs ≡ length img
      → (total_at geo.order Nbfree (apply (total_store geo img) zs) ≡ total_blocks geo img) × (total_at geo.order Nffree (apply (total_store geo img) zs) ≡ total_loose geo img)
  totals-read zs e =
      let b = fr.laid.low in
      let ys = put_total geo.order Nbfree (total_blocks geo img) zs in
      let m = length-put_total geo.order Nbfree (total_blocks geo img) zs in
      rw (apply-totals geo img zs) (
        total-put_total-other geo.order Nffree (total_loose geo img) ys Nbfree not_both
            ∙ total-put_total geo.order Nbfree (total_blocks geo img) zs (omega (arith, total-blocks-small geo img fr)) (omega arith),
        total-put_total geo.order Nffree (total_loose geo img) ys (omega (arith, total-loose-small geo img fr)) (omega arith),
      )

  -- 01: the counts are true
  pub recount-true : TrueCounts geo (apply_all (recount_stores geo img) img)
  recount-true =
      let k = recount-kept geo img in
      let zs = apply_all (group_stores geo img geo.ncg) img in
      let e = apply-recount geo img img in
      let t = totals-read zs (length-apply_all (group_stores geo img geo.ncg) img) in
      record {
        nbfree = λ g l. ap (count_at geo.order Nbfree (cg_at geo g)) e ∙ totals-elsewhere g Nbfree zs l ∙ (groups-read geo.ncg (omega arith) g l).0 ∙ sym (blocks-kept geo img _ fr k g l);
        nffree = λ g l. ap (count_at geo.order Nffree (cg_at geo g)) e ∙ totals-elsewhere g Nffree zs l ∙ (groups-read geo.ncg (omega arith) g l).1 ∙ sym (loose-kept geo img _ fr k g l);
        total_nbfree = ap (total_at geo.order Nbfree) e ∙ t.0 ∙ sym (total-blocks-kept geo img _ fr k);
        total_nffree = ap (total_at geo.order Nffree) e ∙ t.1 ∙ sym (total-loose-kept geo img _ fr k);
      }

  -- it keeps the frame and the magics
  pub recount-frame : Frame geo (apply_all (recount_stores geo img) img)
  recount-frame = frame_same geo img _ fr (recount-kept geo img)

  pub recount-marked : Marked geo img → Marked geo (apply_all (recount_stores geo img) img)
  recount-marked m = marked-same geo img _ fr (recount-kept geo img) m

-- ---- true counts are far within the bounds

small-signed : (n x b : ℕ) → x + x < 256 ^ n → x ≤ b → nat_abs (signed n x) ≤ b
small-signed n x b h l = rw (signed-pos n x h) l

pub true-bounded : (geo : Geometry) (img : List ℕ) → Frame geo img → TrueCounts geo img
    → ((g : ℕ) → g < geo.ncg → nat_abs (signed 4 (count_at geo.order Nifree (cg_at geo g) img)) ≤ 2 ^ 31 - 9) → nat_abs (signed 8 (total_at geo.order Nifree img)) ≤ 2 ^ 62
    → Bounded geo img
true-bounded geo img fr t counts total = record { counts = count; totals = whole }
  where
    count : (g : ℕ) → g < geo.ncg → (c : Count) → nat_abs (signed 4 (count_at geo.order c (cg_at geo g) img)) ≤ 2 ^ 31 - 9
    count g l Nbfree = rw (t.nbfree g l) (small-signed 4 _ (2 ^ 31 - 9) (omega (arith, blocks-small geo img fr g l)) (omega (arith, blocks-small geo img fr g l)))
    count g l Nifree = counts g l
    count g l Nffree = rw (t.nffree g l) (small-signed 4 _ (2 ^ 31 - 9) (omega (arith, loose-small geo img fr g l)) (omega (arith, loose-small geo img fr g l)))

    whole : (c : Count) → nat_abs (signed 8 (total_at geo.order c img)) ≤ 2 ^ 62
    whole Nbfree = rw t.total_nbfree (small-signed 8 _ (2 ^ 62) (omega (arith, total-blocks-small geo img fr)) (omega (arith, total-blocks-small geo img fr)))
    whole Nifree = total
    whole Nffree = rw t.total_nffree (small-signed 8 _ (2 ^ 62) (omega (arith, total-loose-small geo img fr)) (omega (arith, total-loose-small geo img fr)))

pub recount-bounded : (geo : Geometry) (img : List ℕ) → Frame geo img → Bounded geo img → Bounded geo (apply_all (recount_stores geo img) img)
recount-bounded geo img fr b =
    let k = recount-kept geo img in
    true-bounded geo (apply_all (recount_stores geo img) img) (recount-frame geo img fr) (recount-true geo img fr)
    (λ g l. rw (nifree-kept geo img _ fr k g l) (b.counts g l Nifree)) (rw (total-nifree-kept geo img _ fr k) (b.totals Nifree))

-- a sound volume stays sound
pub recount-sound : (img : List ℕ) → soundb img ≡ true → soundb (apply_all (recount_stores (geometry_of img) img) img) ≡ true
recount-sound img h =
    let fr = frame-of img h in
    sound_again (geometry_of img) _ (recount-frame (geometry_of img) img fr) (recount-marked (geometry_of img) img fr (marked-of img h)) (recount-bounded (geometry_of img) img fr (bounded-of img h))
