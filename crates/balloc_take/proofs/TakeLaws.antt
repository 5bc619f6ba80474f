-- The laws of the stores of `specs/Take.antt`: how many they are, what each cut of them leaves, and that every cut keeps the frame. Assumes nothing.
use Rattle.std.specs.Prelude.{Result, Ok, Err}
use Rattle.std.proofs.Common.{◌≡◌, ℕ, zero, suc, ◌+◌, ◌-◌, ◌/◌, ◌%◌, ◌^◌, ◌<◌, ◌≤◌, min, Bool, true, false, ltb, List, [], ◌∷◌, ◌++◌, length, get_or, sym, refl, ap, ◌∙◌, add-one, arith, length-append, le-ltb, lt-ltb, eq-eqb, ne_eqb}
use native.Mathlib.Nat.{min-zero, min-le_right, min-eq_left, min-eq_right}
use native.Mathlib.Decide.{dec_lt, ℕ_discrete}
use Rattle.refusal.specs.declared.Refusal.{Refusal}
use Rattle.field.specs.declared.Order.{Order}
use Rattle.store.specs.Store.{Write, number, Store, apply, apply_all, apply_if, cut}
use Rattle.store.specs.Where.{All, none, more}
use Rattle.store.specs.Act.{Out, got, refused, cut_act, cut_leaves}
use Rattle.store.proofs.StoreLaws.{apply-none, apply_append, apply_all-none, apply_all_append, apply_all-one, apply_if-yes, apply_if_no, apply_if_append}
use Rattle.store.proofs.WhereLaws.{all-take}
use Rattle.store.proofs.CutLaws.{cut-is, cut-none, cut_append, cut_snoc, cut-row, cut_act_lem}
use Rattle.volume.specs.declared.Geometry.{Geometry}
use Rattle.volume.specs.declared.Count.{Count}
use Rattle.volume.specs.declared.Count.TheVariants.{Nbfree, Nffree}
use Rattle.volume.specs.declared.Counts.{Counts}
use Rattle.volume.specs.declared.Totals.{Totals}
use Rattle.volume.specs.Volume.{cg_at, counts_of, totals_of}
use Rattle.bits.specs.Upto.{as_bit}
use Rattle.bits.specs.Bits.{put_bits, put_bits_at}
use Rattle.bits.proofs.UptoLaws.{as_bit-true}
use Rattle.bits.proofs.BitsLaws.{put_bits_at-none}
use Rattle.sound.specs.Sound.{free_at}
use Rattle.frame.specs.Frame.{Frame}
use Rattle.frame.specs.Writes.{map_write, count_write, total_write, up, down}
use Rattle.frame.proofs.WriteLaws.{apply-map-over, apply_if-map, up-is, down-is, frame_if, count-frame, total-frame, bits-frame-at, map-write-frame}
use Rattle.balloc_take.specs.Take.{took_out, took_made, group_count, total, whole_then, take_test, block_stores, frag_maps, count_stores, frag_counts, frag_stores, take_stores, take_back}
use Rattle.balloc_take.specs.Run.{BackRun}
use Rattle.balloc_take.proofs.TestLaws.{good-run}

-- ---- the map stores of fragments

module _ (geo : Geometry) (g f : ℕ) (img : List ℕ) where
  pub maps-length : (n : ℕ) → length (frag_maps geo g f img n) ≡ n
  unfolding frag_maps
  maps-length zero = refl
  maps-length (suc n) = length-append (frag_maps geo g f img n) ((map_write 1 geo g f (suc n) img ∷ []) ∷ []) ∙ rw (maps-length n) (add-one n)

  pub maps_none : (k : ℕ) → cut k (frag_maps geo g f img 0) img ≡ img
  unfolding frag_maps
  maps_none k = cut-none k img

  -- one more, made if fewer than k were made before it
  pub maps-more : (k i : ℕ)
      → cut k (frag_maps geo g f img (i + 1)) img ≡ apply_if (ltb i k) (map_write 1 geo g f (i + 1) img ∷ []) (cut k (frag_maps geo g f img i) img)
  unfolding frag_maps
  maps-more k i = rw (add-one i) (cut_snoc k (frag_maps geo g f img i) (map_write 1 geo g f (suc i) img ∷ []) img ∙ rw (maps-length i))

  -- a cut after i of them leaves the first i fragments' bits made 1, and no other byte
  pub maps-cut : (k n : ℕ) → cut k (frag_maps geo g f img n) img ≡ put_bits_at 1 img (free_at geo g img) f (min k n)
  maps-cut k zero = maps_none k ∙ sym (ap (put_bits_at 1 img (free_at geo g img) f) (min-zero k) ∙ put_bits_at-none 1 img (free_at geo g img) f)
  maps-cut k (suc n) =
      ap (λ (m : ℕ). cut k (frag_maps geo g f img m) img) (sym (add-one n)) ∙ maps-more k n
      ∙ ap (apply_if (ltb n k) (map_write 1 geo g f (n + 1) img ∷ [])) (maps-cut k n)
      ∙ step (dec_lt n k)
    where
      bits : ℕ → List ℕ
      bits m = put_bits_at 1 img (free_at geo g img) f m

      step : Dec (n < k) → apply_if (ltb n k) (map_write 1 geo g f (n + 1) img ∷ []) (bits (min k n)) ≡ bits (min k (suc n))
      step (yes l) =
          apply_if-yes (lt-ltb n k l) (map_write 1 geo g f (n + 1) img ∷ []) (bits (min k n))
          ∙ apply-map-over geo img 1 g f (n + 1) (min k n)
          ∙ ap bits (add-one n ∙ sym (min-eq_right {n = suc n} {m = k} (omega arith)))
      step (no l) =
          apply_if_no (le-ltb n k (omega arith)) (map_write 1 geo g f (n + 1) img ∷ []) (bits (min k n))
          ∙ ap bits (min-eq_left {n = k} {m = n} (omega arith) ∙ sym (min-eq_left {n = k} {m = suc n} (omega arith)))

-- ---- stores of counts and totals keep the frame, whatever image they meet

abbrev pub Keeps : Geometry → Write → Type 0
Keeps geo w = (img : List ℕ) → Frame geo img → Frame geo (apply (w ∷ []) img)

pub keeps_count : (geo : Geometry) (g : ℕ) (c : Count) (v : ℕ) → g < geo.ncg → Keeps geo (count_write geo g c v)
keeps_count geo g c v l img fr = count-frame geo img fr g c v l

pub keeps_total : (geo : Geometry) (c : Count) (v : ℕ) → Keeps geo (total_write geo c v)
keeps_total geo c v img fr = total-frame geo img fr c v

module _ {geo : Geometry} where
  pub keeps-store : {s : Store} → All (Keeps geo) s → (img : List ℕ) → Frame geo img → Frame geo (apply s img)
  keeps-store none img fr = rw (apply-none img) fr
  keeps-store {s = w ∷ s} (more p ps) img fr = rw (apply_append (w ∷ []) s img) (keeps-store ps (apply (w ∷ []) img) (p img fr))

  pub keeps-if : {s : Store} → All (Keeps geo) s → (go : Bool) (img : List ℕ) → Frame geo img → Frame geo (apply_if go s img)
  keeps-if {s} p go img fr = frame_if geo img go s fr (keeps-store p img fr)

  pub kept_if : {s : Store} → All (Keeps geo) s → (go : Bool) (xs : List ℕ) {ys : List ℕ} → Frame geo xs → ys ≡ apply_if go s xs → Frame geo ys
  kept_if p go xs fr e = rw e (keeps-if p go xs fr)

  keeps-all : {ss : List Store} → All (All (Keeps geo)) ss → (img : List ℕ) → Frame geo img → Frame geo (apply_all ss img)
  keeps-all none img fr = rw (apply_all-none img) fr
  keeps-all {ss = s ∷ ss} (more p ps) img fr = rw (apply_all_append (s ∷ []) ss img, apply_all-one s img) (keeps-all ps (apply s img) (keeps-store p img fr))

  pub keeps_cut : {ss : List Store} → All (All (Keeps geo)) ss → (k : ℕ) (img : List ℕ) → Frame geo img → Frame geo (cut k ss img)
  keeps_cut {ss} p k img fr = rw (cut-is k ss img) (keeps-all (all-take k p) img fr)

pub keeps_totals : (geo : Geometry) (v w : ℕ) → All (Keeps geo) (total_write geo Nffree v ∷ total_write geo Nbfree w ∷ [])
keeps_totals geo v w = more (keeps_total geo Nffree v) (more (keeps_total geo Nbfree w) none)

pub keeps_counts : (geo : Geometry) (g v w : ℕ) → g < geo.ncg → All (Keeps geo) (count_write geo g Nffree v ∷ count_write geo g Nbfree w ∷ [])
keeps_counts geo g v w l = more (keeps_count geo g Nffree v l) (more (keeps_count geo g Nbfree w l) none)

counts-keep : (geo : Geometry) (g n : ℕ) (c : Counts) (t : Totals) (whole : Bool) → g < geo.ncg → All (All (Keeps geo)) (count_stores geo g n c t whole)
counts-keep geo g n c t true l = more (more (keeps_total geo Nffree _) none) (more (keeps_totals geo _ _) (more (keeps_counts geo g _ _ l) none))
counts-keep geo g n c t false l = more (more (keeps_total geo Nffree _) none) (more (keeps_counts geo g _ _ l) none)

-- ---- a block's stores, and a run's

module _ (geo : Geometry) (g f : ℕ) (img : List ℕ) where
  pub block-length : length (block_stores geo g f img) ≡ 3
  unfolding block_stores
  block-length = refl

  pub block-cut : (k : ℕ)
      → cut k (block_stores geo g f img) img
      ≡ apply_if (ltb 2 k) (count_write geo g Nbfree (up 4 (group_count geo g Nbfree img) 1) ∷ [])
      (apply_if (ltb 1 k) (total_write geo Nbfree (up 8 (total geo Nbfree img) 1) ∷ [])
      (apply_if (ltb 0 k) (map_write 1 geo g f geo.frag img ∷ []) img))
  unfolding block_stores
  block-cut k = cut-row k _ img

  -- the map store, and then the counts'
  pub block-split : (k : ℕ)
      → cut k (block_stores geo g f img) img
      ≡ cut (k - 1) ((total_write geo Nbfree (up 8 (total geo Nbfree img) 1) ∷ []) ∷ (count_write geo g Nbfree (up 4 (group_count geo g Nbfree img) 1) ∷ []) ∷ [])
      (apply_if (ltb 0 k) (map_write 1 geo g f geo.frag img ∷ []) img)
  unfolding block_stores
  block-split k = cut_append k ((map_write 1 geo g f geo.frag img ∷ []) ∷ []) _ img ∙ rw (cut-row k ((map_write 1 geo g f geo.frag img ∷ []) ∷ []) img)

  pub frag-length : (n : ℕ) → length (frag_stores geo g f n img) ≡ n + length (frag_counts geo g n img (whole_then geo g f n img))
  unfolding frag_stores
  frag-length n = length-append (frag_maps geo g f img n) _ ∙ rw (maps-length geo g f img n)

  pub frag_cut : (k n : ℕ)
      → cut k (frag_stores geo g f n img) img ≡ cut (k - n) (frag_counts geo g n img (whole_then geo g f n img)) (cut k (frag_maps geo g f img n) img)
  unfolding frag_stores
  frag_cut k n = cut_append k (frag_maps geo g f img n) _ img ∙ rw (maps-length geo g f img n)

-- ---- from what the code's stores ensure, one by one

-- a map byte, computed and stored
pub map-value : (geo : Geometry) (g f n : ℕ) (img : List ℕ) {free : Bool} {at b : ℕ} → at ≡ free_at geo g img + f / 8 → free ≡ true
    → b ≡ put_bits (as_bit free) n (f % 8) (get_or img at 0) → b ≡ put_bits 1 n (f % 8) (get_or img (free_at geo g img + f / 8) 0)
map-value geo g f n img e t q = q ∙ rw (as_bit-true t, e)

pub map_stored : (geo : Geometry) (g f n : ℕ) (img : List ℕ) {free : Bool} {at b : ℕ} → at ≡ free_at geo g img + f / 8 → free ≡ true
    → b ≡ put_bits (as_bit free) n (f % 8) (get_or img at 0) → b < 256
    → (o : Order) (go : Bool) (xs : List ℕ) {ys : List ℕ} → ys ≡ apply_if go (number o 1 at b ∷ []) xs → ys ≡ apply_if go (map_write 1 geo g f n img ∷ []) xs
map_stored geo g f n img {at = at} {b = b} e t q l o go xs z =
    z ∙ ap (λ (p : ℕ). apply_if go (number o 1 p b ∷ []) xs) e ∙ apply_if-map geo img go o 1 g f n b xs (map-value geo g f n img e t q) l

-- writes made together, stored one by one
pub together : (go : Bool) (s t : Store) (xs : List ℕ) {ys zs : List ℕ} → ys ≡ apply_if go s xs → zs ≡ apply_if go t ys → zs ≡ apply_if go (s ++ t) xs
together go s t xs a b = b ∙ ap (apply_if go t) a ∙ sym (apply_if_append go s t xs)

-- 256 ^ w less d, where the code has the top number and d - 1
pub down-by : (w top x d : ℕ) → 256 ^ w ≡ top + 1 → 0 < d → (x + (top - (d - 1))) % 256 ^ w ≡ down w x d
down-by w top x d e some =
    let z : top - (d - 1) ≡ 256 ^ w - d = omega arith in
    ap (λ (y : ℕ). (x + y) % 256 ^ w) z ∙ sym (down-is w x d)

module _ (geo : Geometry) (g n : ℕ) (c : Counts) (t : Totals) (k : ℕ) (first : List ℕ) where
  pub part-stored : {total count blocks : ℕ} {mid last : List ℕ} → total ≡ up 8 t.nffree n → (count ≡ up 4 c.nffree n) × (blocks ≡ c.nbfree)
      → mid ≡ apply_if (ltb 0 k) (total_write geo Nffree total ∷ []) first
      → last ≡ apply_if (ltb 1 k) (count_write geo g Nffree count ∷ count_write geo g Nbfree blocks ∷ []) mid
      → last ≡ cut k (count_stores geo g n c t false) first
  part-stored a b d e = rw (cut-row k (count_stores geo g n c t false) first, e, d, a, b.0, b.1)

  pub whole-stored : {some all blocks count of : ℕ} {mid then last : List ℕ}
      → some ≡ up 8 t.nffree n → all ≡ down 8 (up 8 t.nffree n) geo.frag → blocks ≡ up 8 t.nbfree 1
      → count ≡ down 4 (up 4 c.nffree n) geo.frag → of ≡ up 4 c.nbfree 1
      → mid ≡ apply_if (ltb 0 k) (total_write geo Nffree some ∷ []) first
      → then ≡ apply_if (ltb 1 k) (total_write geo Nffree all ∷ total_write geo Nbfree blocks ∷ []) mid
      → last ≡ apply_if (ltb 2 k) (count_write geo g Nffree count ∷ count_write geo g Nbfree of ∷ []) then
      → last ≡ cut k (count_stores geo g n c t true) first
  whole-stored a b d e h i j l = rw (cut-row k (count_stores geo g n c t true) first, l, j, i, a, b, d, e, h)

module _ (geo : Geometry) (g f k : ℕ) (img : List ℕ) where
  pub block-stored : {c : Counts} {t : Totals} {v count : ℕ} {mid then last : List ℕ}
      → c ≡ counts_of geo.order (cg_at geo g) img → t ≡ totals_of geo.order img → v ≡ (t.nbfree + 1) % 256 ^ 8 → count ≡ (c.nbfree + 1) % 256 ^ 4
      → mid ≡ apply_if (ltb 0 k) (map_write 1 geo g f geo.frag img ∷ []) img
      → then ≡ apply_if (ltb 1 k) (total_write geo Nbfree v ∷ []) mid
      → last ≡ apply_if (ltb 2 k) (count_write geo g Nbfree count ∷ []) then
      → last ≡ cut k (block_stores geo g f img) img
  block-stored p q a b d e h = rw (block-cut geo g f img k, h, e, d, a, b, p, q, up-is 8 (total geo Nbfree img) 1, up-is 4 (group_count geo g Nbfree img) 1)

module _ (geo : Geometry) (g f n k : ℕ) (img : List ℕ) {c : Counts} {t : Totals} {whole : Bool}
    (counts : c ≡ counts_of geo.order (cg_at geo g) img) (totals : t ≡ totals_of geo.order img) (then : whole ≡ whole_then geo g f n img) where
  pub frags-stored : {left : ℕ} {mid last : List ℕ} → left ≡ k - n → mid ≡ cut k (frag_maps geo g f img n) img → last ≡ cut left (count_stores geo g n c t whole) mid
      → last ≡ cut k (frag_stores geo g f n img) img
  frags-stored a b d = d ∙ rw (a, b, counts, totals, then) (sym (frag_cut geo g f img k n))

  pub frags-made : {made tail : ℕ} → tail ≡ length (count_stores geo g n c t whole) → made ≡ min k (n + tail) → made ≡ min k (length (frag_stores geo g f n img))
  frags-made a b = b ∙ ap (λ (m : ℕ). min k (n + m)) a ∙ rw (counts, totals, then) (ap (min k) (sym (frag-length geo g f img n)))

module _ {geo : Geometry} {g f n : ℕ} {img : List ℕ} (r : BackRun geo img g f n) where
  bits-keep : (m : ℕ) → m ≤ n → Frame geo (put_bits_at 1 img (free_at geo g img) f m)
  bits-keep zero l = rw (put_bits_at-none 1 img (free_at geo g img) f) r.frame
  bits-keep (suc m) l =
      let b = r.in_byte in
      let w = r.within in
      bits-frame-at geo img r.frame 1 g f (suc m) (omega arith) r.group (omega arith) (omega arith) (omega arith) (λ k q. r.may k (omega arith))

  maps-frame : (k : ℕ) → Frame geo (cut k (frag_maps geo g f img n) img)
  maps-frame k = rw (maps-cut geo g f img k n) (bits-keep (min k n) (min-le_right k n))

  map-frame-if : (go : Bool) → Frame geo (apply_if go (map_write 1 geo g f n img ∷ []) img)
  map-frame-if go = frame_if geo img go _ r.frame (map-write-frame geo img r.frame 1 g f n (omega arith) r.group r.in_byte r.within r.some r.may)

  pub map-kept : (go : Bool) {ys : List ℕ} → ys ≡ apply_if go (map_write 1 geo g f n img ∷ []) img → Frame geo ys
  map-kept go e = rw e (map-frame-if go)

  pub maps-kept : (k : ℕ) {ys : List ℕ} → ys ≡ cut k (frag_maps geo g f img n) img → Frame geo ys
  maps-kept k e = rw e (maps-frame k)

  frags-frame : (k : ℕ) → Frame geo (cut k (frag_stores geo g f n img) img)
  frags-frame k = rw (frag_cut geo g f img k n) (keeps_cut (counts-keep geo g n (counts_of geo.order (cg_at geo g) img) (totals_of geo.order img) (whole_then geo g f n img) r.group) (k - n) _ (maps-frame k))

block-frame : {geo : Geometry} {g f : ℕ} {img : List ℕ} → BackRun geo img g f geo.frag → (k : ℕ) → Frame geo (cut k (block_stores geo g f img) img)
block-frame {geo} {g} {f} {img} r k =
    rw (block-cut geo g f img k)
    (keeps-if (more (keeps_count geo g Nbfree _ r.group) none) (ltb 2 k) _
    (keeps-if (more (keeps_total geo Nbfree _) none) (ltb 1 k) _ (map-frame-if r (ltb 0 k))))

-- ---- the call

module _ (geo : Geometry) (a size : ℕ) (img : List ℕ) where
  pub stores-block : {g f : ℕ} → g ≡ a / geo.fpg → f ≡ a % geo.fpg → size / geo.fsize ≡ geo.frag → take_stores geo a size img ≡ block_stores geo g f img
  unfolding take_stores
  stores-block p q e = rw (p, q, eq-eqb (size / geo.fsize) geo.frag e)

  pub stores-frags : {g f n : ℕ} → g ≡ a / geo.fpg → f ≡ a % geo.fpg → n ≡ size / geo.fsize → (n ≡ geo.frag → ⊥) → take_stores geo a size img ≡ frag_stores geo g f n img
  unfolding take_stores
  stores-frags p q s e = rw (p, q, s, ne_eqb (size / geo.fsize) geo.frag (λ h. e (s ∙ h)))

  -- "3; n + 2 or n + 3"
  pub length-block : size / geo.fsize ≡ geo.frag → length (take_stores geo a size img) ≡ 3
  length-block e = ap length (stores-block refl refl e) ∙ block-length geo (a / geo.fpg) (a % geo.fpg) img

  module _ (part : size / geo.fsize ≡ geo.frag → ⊥) where
    length-frags : {whole : Bool} → whole_then geo (a / geo.fpg) (a % geo.fpg) (size / geo.fsize) img ≡ whole
        → length (take_stores geo a size img) ≡ size / geo.fsize + length (frag_counts geo (a / geo.fpg) (size / geo.fsize) img whole)
    length-frags e = ap length (stores-frags refl refl refl part) ∙ frag-length geo (a / geo.fpg) (a % geo.fpg) img (size / geo.fsize) ∙ rw e

    pub length-part : whole_then geo (a / geo.fpg) (a % geo.fpg) (size / geo.fsize) img ≡ false → length (take_stores geo a size img) ≡ size / geo.fsize + 2
    length-part e = length-frags e

    pub length-whole : whole_then geo (a / geo.fpg) (a % geo.fpg) (size / geo.fsize) img ≡ true → length (take_stores geo a size img) ≡ size / geo.fsize + 3
    length-whole e = length-frags e

  pub back-zero : a ≡ 0 → take_back geo a size img ≡ record { stores = []; out = got (tt {0}) }
  unfolding take_back
  back-zero e = rw (eq-eqb a 0 e)

  module _ (some : a ≡ 0 → ⊥) where
    pub back-good : take_test geo a size img ≡ Ok tt → take_back geo a size img ≡ record { stores = take_stores geo a size img; out = got (tt {0}) }
    unfolding take_back
    back-good e = rw (ne_eqb a 0 some, e)

    pub back-bad : {n : Refusal} → take_test geo a size img ≡ Err n → take_back geo a size img ≡ record { stores = []; out = refused n }
    unfolding take_back
    back-bad e = rw (ne_eqb a 0 some, e)

  -- what a cut leaves, from what the code's parts leave
  module _ (k : ℕ) where
    nothing : (o : Out (Unit {0})) → take_back geo a size img ≡ record { stores = []; out = o } → (img, o, 0) ≡ cut_leaves k (take_back geo a size) img
    nothing o e = rw (cut_act_lem k (take_back geo a size) img, e, cut-none k img, min-zero k)

    pub leaves-zero : a ≡ 0 → (img, got (tt {0}), 0) ≡ cut_leaves k (take_back geo a size) img
    leaves-zero e = nothing (got (tt {0})) (back-zero e)

    pub leaves-bad : (a ≡ 0 → ⊥) → {n : Refusal} → take_test geo a size img ≡ Err n → (img, refused n, 0) ≡ cut_leaves k (take_back geo a size) img
    leaves-bad some {n} e = nothing (refused n) (back-bad some e)

    pub leaves-good : {ss : List Store} {ys : List ℕ} {m : ℕ} → (a ≡ 0 → ⊥) → take_test geo a size img ≡ Ok tt → take_stores geo a size img ≡ ss
        → ys ≡ cut k ss img → m ≡ min k (length ss) → (ys, got (tt {0}), m) ≡ cut_leaves k (take_back geo a size) img
    leaves-good some e s c l = rw (cut_act_lem k (take_back geo a size) img, back-good some e, s, c, l)

  -- every cut keeps the frame
  module _ (fr : Frame geo img) where
    stores-frame : (k : ℕ) → take_test geo a size img ≡ Ok tt → Frame geo (cut k (take_stores geo a size img) img)
    stores-frame k e = go (ℕ_discrete (size / geo.fsize) geo.frag)
      where
        go : Dec (size / geo.fsize ≡ geo.frag) → Frame geo (cut k (take_stores geo a size img) img)
        go (yes q) = rw (stores-block refl refl q) (block-frame (rw q at (good-run geo a size img e fr)) k)
        go (no q) = rw (stores-frags refl refl refl q) (frags-frame (good-run geo a size img e fr) k)

    pub take-frame : (k : ℕ) → Frame geo (cut_act k (take_back geo a size) img)
    take-frame k = rw (cut_act_lem k (take_back geo a size) img) (go (ℕ_discrete a 0) (take_test geo a size img) refl)
      where
        go : Dec (a ≡ 0) → (j : Result (Unit {0}) Refusal) → take_test geo a size img ≡ j → Frame geo (cut k (take_back geo a size img).stores img)
        go (yes z) j e = rw (back-zero z, cut-none k img) fr
        go (no z) (Ok u) e = rw (back-good z e) (stores-frame k e)
        go (no z) (Err n) e = rw (back-bad z e, cut-none k img) fr

-- answers that meet the promise coincide
pub took_same : (a b : Result ℕ Refusal) → took_out a ≡ took_out b → took_made a ≡ took_made b → a ≡ b
took_same (Ok m) (Ok n) e q = cc
took_same (Ok m) (Err f) e q = absurd (let z : ◌≡◌ {A = ℕ} 0 1 = cc in let y : ⊥ = omega arith in y)
took_same (Err f) (Ok n) e q = absurd (let z : ◌≡◌ {A = ℕ} 0 1 = cc in let y : ⊥ = omega arith in y)
took_same (Err e) (Err f) p q = cc
