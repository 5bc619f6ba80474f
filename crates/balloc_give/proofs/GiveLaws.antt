-- The laws of `specs/Give.antt`: where a block stands, how the choice goes on, and the frame at every cut of giving. Assumes nothing.
use Rattle.std.specs.Prelude.{Option, Some, None}
use Rattle.std.proofs.Common.{◌≡◌, ℕ, zero, suc, ◌+◌, ◌-◌, ◌*◌, ◌/◌, ◌%◌, ◌<◌, ◌≤◌, min, Bool, true, false, ◌&&◌, ltb, leb, ◌⊎◌, List, [], ◌∷◌, length, get_or, sym, refl, ap, ◌∙◌, subst, inl, inr, ⊎_elim, mul_comm, div-le_self, div-mul-le_self, arith}
use native.Mathlib.Nat.{sub-zero, min-zero}
use native.Mathlib.Decide.{dec_lt}
use Rattle.field.specs.Field.{put, zeros}
use Rattle.store.specs.Store.{number, apply, apply_if, cut}
use Rattle.store.specs.Act.{Out, got, refused, Run, pure, leaves, made, cut_act, cut_leaves}
use Rattle.store.proofs.StoreLaws.{apply-one, length-apply_all}
use Rattle.store.proofs.ActLaws.{leaves-pure, step_store, step-good, step-bad, left_out, left-image}
use Rattle.store.proofs.CutLaws.{cut-row, cut_act_lem, cut-none, cut-whole}
use Rattle.volume.specs.declared.Geometry.{Geometry}
use Rattle.volume.specs.declared.Count.TheVariants.{Nbfree}
use Rattle.volume.specs.Volume.{byte_at, cg_at, count_at, total_at}
use Rattle.volume.proofs.Laws.{byte_at-mono, byte_at-add}
use Rattle.bits.specs.Upto.{as_bit}
use Rattle.bits.specs.Bits.{is_frag, first_free, block_free, put_bits}
use Rattle.bits.proofs.BitsLaws.{frag-some, frag-most, block_in_byte, block-ends}
use Rattle.bits.proofs.UptoLaws.{IsFirst, first-found, as_bit-false}
use Rattle.bits.proofs.CountLaws.{first-free-is}
use Rattle.refusal.specs.declared.Refusal.{Refusal}
use Rattle.refusal.specs.declared.Refusal.TheVariants.{NoSpace}
use Rattle.sound.specs.Sound.{group_at, free_at}
use Rattle.frame.specs.Frame.{Never, Frame, Spots}
use Rattle.frame.specs.Writes.{map_write, count_write, total_write, down}
use Rattle.frame.proofs.Places.{spots}
use Rattle.frame.proofs.WriteLaws.{frame_if, count-frame, clear-write-frame, map-write-number}
use Rattle.balloc_give.specs.declared.Giving.{Giving}
use Rattle.balloc_give.specs.Give.{Values, positive, blocks_in, in_group, or_else, choose_from, chosen, block_address, give_stores, giving, give_block, give_zeroed, zero_write}

-- ---- where a block stands

module _ (geo : Geometry) (img : List ℕ) (fr : Frame geo img) where
  pub frag-ok : is_frag geo.frag ≡ true
  frag-ok = fr.sizes.frag

  pub blocks-inside : (g : ℕ) → geo.frag * blocks_in geo g img ≤ (group_at geo g img).ndblk
  unfolding blocks_in
  blocks-inside g = rw (mul_comm geo.frag ((group_at geo g img).ndblk / geo.frag)) (div-mul-le_self (group_at geo g img).ndblk geo.frag)

  module _ (g h : ℕ) (lg : g < geo.ncg) (lh : h < blocks_in geo g img) where
    pub block_inside : geo.frag * h + geo.frag ≤ (group_at geo g img).ndblk
    block_inside = omega (arith, blocks-inside g, block-ends geo.frag h (blocks_in geo g img) lh)

    pub block-byte : free_at geo g img + geo.frag * h / 8 < length img
    block-byte = let s = spots geo img fr g lg in omega (arith, block_inside, frag-some geo.frag frag-ok)

-- ---- the choice

module _ (geo : Geometry) (img : List ℕ) where
  pub passed : (g : ℕ) → positive (count_at geo.order Nbfree (cg_at geo g) img) ≡ false → in_group geo img g ≡ None
  unfolding in_group
  passed g h = rw h

  pub searched : (g : ℕ) → positive (count_at geo.order Nbfree (cg_at geo g) img) ≡ true → in_group geo img g ≡ first_free geo.frag img (free_at geo g img) (blocks_in geo g img)
  unfolding in_group
  searched g h = rw h

  pub choose-start : choose_from geo img 0 (geo.ncg - 0) ≡ chosen geo img
  unfolding chosen
  choose-start = rw (sub-zero geo.ncg)

  pub choose-hit : (g n h : ℕ) → g < n → in_group geo img g ≡ Some h → choose_from geo img g (n - g) ≡ Some (g, h)
  unfolding choose_from
  choose-hit g n h l e = let q : n - g ≡ suc (n - (g + 1)) = omega arith in rw (q, e)

  pub choose-miss : (g n : ℕ) → g < n → in_group geo img g ≡ None → choose_from geo img g (n - g) ≡ choose_from geo img (g + 1) (n - (g + 1))
  unfolding choose_from
  choose-miss g n l e = let q : n - g ≡ suc (n - (g + 1)) = omega arith in rw (q, e)

  pub choose-end : (g n : ℕ) → n ≤ g → choose_from geo img g (n - g) ≡ None
  unfolding choose_from
  choose-end g n l = let q : n - g ≡ 0 = omega arith in rw q

-- ---- the three stores

pub give_three : (geo : Geometry) (img : List ℕ) (g h : ℕ) → length (give_stores geo img g h) ≡ 3
unfolding give_stores
give_three geo img g h = refl

pub give-cut : (k : ℕ) (geo : Geometry) (img : List ℕ) (g h : ℕ)
    → cut k (give_stores geo img g h) img
    ≡ apply_if (ltb 2 k) (total_write geo Nbfree (down 8 (total_at geo.order Nbfree img) 1) ∷ [])
    (apply_if (ltb 1 k) (count_write geo g Nbfree (down 4 (count_at geo.order Nbfree (cg_at geo g) img) 1) ∷ [])
    (apply_if (ltb 0 k) (map_write 0 geo g (geo.frag * h) geo.frag img ∷ []) img))
unfolding give_stores
give-cut k geo img g h = cut-row k (give_stores geo img g h) img

-- ---- the frame, store by store

module _ (geo : Geometry) (img : List ℕ) (fr : Frame geo img) (g h : ℕ) (lg : g < geo.ncg) (lh : h < blocks_in geo g img) where
  pub map-kept : (go : Bool) → Frame geo (apply_if go (map_write 0 geo g (geo.frag * h) geo.frag img ∷ []) img)
  map-kept go =
      frame_if geo img go _ fr
      (clear-write-frame geo img fr g (geo.frag * h) geo.frag lg (block_in_byte h geo.frag (frag-ok geo img fr)) (block_inside geo img fr g h lg lh) (frag-some geo.frag (frag-ok geo img fr)))

pub count-kept : (geo : Geometry) (img : List ℕ) → Frame geo img → (go : Bool) (g v : ℕ) → g < geo.ncg → Frame geo (apply_if go (count_write geo g Nbfree v ∷ []) img)
count-kept geo img fr go g v l = frame_if geo img go _ fr (count-frame geo img fr g Nbfree v l)

-- ---- a group's map as the code finds it: at a, with the record's freeoff o and ndblk d

module _ (geo : Geometry) (img : List ℕ) (fr : Frame geo img) (g : ℕ) (lg : g < geo.ncg) (a o d : ℕ)
    (ea : a ≡ cg_at geo g) (eo : o ≡ (group_at geo g img).freeoff) (ed : d ≡ (group_at geo g img).ndblk) where
  pub map-in-image : (is_frag geo.frag ≡ true) × (a + o + (geo.frag * (d / geo.frag) + 7) / 8 ≤ length img) × (d / geo.frag < 4294967296)
  unfolding blocks_in
  map-in-image =
      let s = spots geo img fr g lg in
      let h = fr.head g lg in
      let q : d / geo.frag ≤ d = div-le_self d geo.frag in
      let b : geo.frag * (d / geo.frag) ≤ d = rw ed (blocks-inside geo img fr g) in
      let t = fr.sizes.fpg_top in
      (frag-ok geo img fr, omega arith, omega arith)

  pub found-in-group : positive (count_at geo.order Nbfree (cg_at geo g) img) ≡ true → first_free geo.frag img (a + o) (d / geo.frag) ≡ in_group geo img g
  unfolding blocks_in
  found-in-group p = rw (ea, eo, ed) (sym (searched geo img g p))

-- ---- the values that the code computes before its first store

pub values_are : (geo : Geometry) (img : List ℕ) → Frame geo img → (g h : ℕ) → g < geo.ncg → h < blocks_in geo g img
    → (cg o at m n t : ℕ) → cg ≡ cg_at geo g → o ≡ (group_at geo g img).freeoff → at ≡ cg + o → m ≡ geo.frag * h / 8
    → n ≡ count_at geo.order Nbfree (cg_at geo g) img → t ≡ total_at geo.order Nbfree img
    → (r : Giving) → r.place ≡ at + m
    → r.byte ≡ put_bits (as_bit false) geo.frag (geo.frag * h % 8) (get_or img (at + geo.frag * h / 8) 0)
    → r.byte < 256
    → r.count ≡ (n + 4294967295) % 4294967296
    → r.total ≡ (t + 18446744073709551615) % 18446744073709551616
    → Values geo img g h r
unfolding down
values_are geo img fr g h lg lh cg o at m n t qc qo qa qm qn qt r ep eb lt ec et =
    let e : at ≡ free_at geo g img = omega arith in
    record {
      map = map-write-number geo img 0 g (geo.frag * h) geo.frag r.place r.byte (omega arith) (eb ∙ rw (e, as_bit-false {a = false} refl)) lt;
      room = omega (arith, block-byte geo img fr g h lg lh);
      count = ec ∙ rw qn;
      total = et ∙ rw qt;
    }

-- ---- what a choice says

pub record Found-in (geo : Geometry) (img : List ℕ) (from m g h : ℕ) : Type 0 where
  pub first : from ≤ g
  pub last : g < from + m
  pub here : in_group geo img g ≡ Some h
  pub before : (x : ℕ) → from ≤ x → x < g → in_group geo img x ≡ None

pub choose-found : (geo : Geometry) (img : List ℕ) (from m g h : ℕ) → choose_from geo img from m ≡ Some (g, h) → Found-in geo img from m g h
unfolding choose_from
choose-found geo img from zero g h e = absurd (let z : ◌≡◌ {A = ℕ} 0 1 = cc in let y : ⊥ = omega arith in y)
choose-found geo img from (suc m) g h e = go (in_group geo img from) refl e (choose-found geo img (from + 1) m g h)
  where
    before-too : in_group geo img from ≡ None → Found-in geo img (from + 1) m g h → (y : ℕ) → from ≤ y → y < g → Dec (from < y) → in_group geo img y ≡ None
    before-too q r y l u (yes n) = r.before y (omega arith) u
    before-too q r y l u (no n) = let s : y ≡ from = omega arith in rw s q

    go : (f : Option ℕ) → in_group geo img from ≡ f → or_else from f (choose_from geo img (from + 1) m) ≡ Some (g, h)
        → (choose_from geo img (from + 1) m ≡ Some (g, h) → Found-in geo img (from + 1) m g h) → Found-in geo img from (suc m) g h
    go (Some x) q e f =
        let w : ◌≡◌ {A = ℕ × ℕ} (from, x) (g, h) = cc in
        let eg : from ≡ g = ap (λ (z : ℕ × ℕ). z.0) w in
        let eh : x ≡ h = ap (λ (z : ℕ × ℕ). z.1) w in
        record { first = omega arith; last = omega arith; here = rw (← eg, ← eh) q; before = λ y l r. absurd (let z : ⊥ = omega arith in z) }
    go None q e f =
        let r = f e in
        record { first = omega (arith, r.first); last = omega (arith, r.last); here = r.here; before = λ y l u. before-too q r y l u (dec_lt from y) }

pub choose-none : (geo : Geometry) (img : List ℕ) (from m : ℕ) → choose_from geo img from m ≡ None → (g : ℕ) → from ≤ g → g < from + m → in_group geo img g ≡ None
unfolding choose_from
choose-none geo img from zero e g l u = absurd (let z : ⊥ = omega arith in z)
choose-none geo img from (suc m) e g l u = go (in_group geo img from) refl e (choose-none geo img (from + 1) m)
  where
    go : (f : Option ℕ) → in_group geo img from ≡ f → or_else from f (choose_from geo img (from + 1) m) ≡ None
        → (choose_from geo img (from + 1) m ≡ None → (g : ℕ) → from + 1 ≤ g → g < from + 1 + m → in_group geo img g ≡ None) → in_group geo img g ≡ None
    go (Some x) q e f = absurd (let z : ◌≡◌ {A = ℕ} 0 1 = cc in let y : ⊥ = omega arith in y)
    go None q e f = at (dec_lt from g)
      where
        at : Dec (from < g) → in_group geo img g ≡ None
        at (yes n) = f e g (omega arith) (omega arith)
        at (no n) = let s : g ≡ from = omega arith in rw s q

-- the block chosen: the first free one of the first group that counts one and has one
pub record IsChosen (geo : Geometry) (img : List ℕ) (g h : ℕ) : Type 0 where
  pub group : g < geo.ncg
  pub block : h < blocks_in geo g img
  pub counts : positive (count_at geo.order Nbfree (cg_at geo g) img) ≡ true
  pub free : block_free geo.frag img (free_at geo g img) h ≡ true
  pub lower : (x : ℕ) → x < h → block_free geo.frag img (free_at geo g img) x ≡ false
  pub earlier : (y : ℕ) → y < g → in_group geo img y ≡ None

pub in_group-found : (geo : Geometry) (img : List ℕ) (g h : ℕ) → in_group geo img g ≡ Some h
    → (positive (count_at geo.order Nbfree (cg_at geo g) img) ≡ true) × IsFirst (block_free geo.frag img (free_at geo g img)) 0 (blocks_in geo g img) h
in_group-found geo img g h e = go (positive (count_at geo.order Nbfree (cg_at geo g) img)) refl
  where
    go : (b : Bool) → positive (count_at geo.order Nbfree (cg_at geo g) img) ≡ b
        → (positive (count_at geo.order Nbfree (cg_at geo g) img) ≡ true) × IsFirst (block_free geo.frag img (free_at geo g img)) 0 (blocks_in geo g img) h
    go true p = (p, first-found _ 0 (blocks_in geo g img) h (sym (first-free-is geo.frag img (free_at geo g img) (blocks_in geo g img)) ∙ sym (searched geo img g p) ∙ e))
    go false p = absurd (let q = passed geo img g p in let z : ◌≡◌ {A = ℕ} 0 1 = cc in let y : ⊥ = omega arith in y)

pub chosen-is : (geo : Geometry) (img : List ℕ) (g h : ℕ) → chosen geo img ≡ Some (g, h) → IsChosen geo img g h
unfolding chosen
chosen-is geo img g h e =
    let r = choose-found geo img 0 geo.ncg g h e in
    let q = in_group-found geo img g h r.here in
    let f = q.1 in
    record {
      group = omega (arith, r.last);
      block = omega (arith, f.below);
      counts = q.0;
      free = f.holds;
      lower = λ x l. f.before x (omega arith) l;
      earlier = λ y l. r.before y (omega arith) l;
    }

-- ---- what the code's three stores leave

pub give-leaves : (k : ℕ) (geo : Geometry) (img : List ℕ) (g h : ℕ) → chosen geo img ≡ Some (g, h) → (s : List ℕ) (a n : ℕ)
    → s ≡ cut k (give_stores geo img g h) img → a ≡ block_address geo g h → n ≡ min k 3
    → (s, got a, n) ≡ cut_leaves k (give_block geo) img
unfolding give_block
give-leaves k geo img g h e s a n es ea en =
    rw (cut_act_lem k (give_block geo) img, e, give_three geo img g h, es, ea, en)

pub give-none : (k : ℕ) (geo : Geometry) (img : List ℕ) → chosen geo img ≡ None → ◌≡◌ {A = List ℕ × Out ℕ × ℕ} (img, refused NoSpace, 0) (cut_leaves k (give_block geo) img)
unfolding give_block
give-none k geo img e = rw (cut_act_lem k (give_block geo) img, e, cut-none k img, min-zero k)

-- a block's address fits
pub address-fits : (geo : Geometry) (img : List ℕ) → Frame geo img → (g h : ℕ) → g < geo.ncg → h < blocks_in geo g img → geo.frag * h < 2147483648
address-fits geo img fr g h lg lh = let q = fr.head g lg in omega (arith, block_inside geo img fr g h lg lh, fr.sizes.fpg_top)

-- ---- the code's three puts

module _ (geo : Geometry) (img : List ℕ) (fr : Frame geo img) (g h : ℕ) (lg : g < geo.ncg) (lh : h < blocks_in geo g img) (r : Giving) (v : Values geo img g h r) where
  pub after_map : (go : Bool) (x : List ℕ) → x ≡ apply_if go (number geo.order 1 r.place r.byte ∷ []) img → Frame geo x
  after_map go x e = rw (e, ← v.map) (map-kept geo img fr g h lg lh go)

pub after-count : (geo : Geometry) (img : List ℕ) → Frame geo img → (g : ℕ) → g < geo.ncg → (n : ℕ) (go : Bool) (x : List ℕ) → x ≡ apply_if go (count_write geo g Nbfree n ∷ []) img → Frame geo x
after-count geo img fr g l n go x e = rw e (count-kept geo img fr go g n l)

pub give-made : (k : ℕ) (geo : Geometry) (img : List ℕ) (g h : ℕ) (r : Giving) → Values geo img g h r → (x y z : List ℕ)
    → x ≡ apply_if (ltb 0 k) (number geo.order 1 r.place r.byte ∷ []) img
    → y ≡ apply_if (ltb 1 k) (count_write geo g Nbfree r.count ∷ []) x
    → z ≡ apply_if (ltb 2 k) (total_write geo Nbfree r.total ∷ []) y
    → z ≡ cut k (give_stores geo img g h) img
give-made k geo img g h r v x y z ex ey ez = rw (give-cut k geo img g h, v.map, ← v.count, ← v.total, ← ex, ← ey) ez

pub address-is : (geo : Geometry) (g h p : ℕ) → p ≡ g * geo.fpg → p + geo.frag * h ≡ block_address geo g h
unfolding block_address
address-is geo g h p e = rw e

-- ---- a block given and zeroed

pub block-place : (geo : Geometry) (g h : ℕ) → block_address geo g h * geo.fsize ≡ byte_at geo g (geo.frag * h)
unfolding block_address byte_at
block-place geo g h = refl

-- at most three stores
pub give-most : (geo : Geometry) (img : List ℕ) → made (give_block geo) img ≤ 3
unfolding give_block
give-most geo img = go (chosen geo img)
  where
    go : (c : Option (ℕ × ℕ)) → length (giving geo img c).stores ≤ 3
    go None = omega arith
    go (Some (g, h)) = omega (arith, give_three geo img g h)

-- a block given lies in the image
pub given-inside : (geo : Geometry) (img : List ℕ) → Frame geo img → (a : ℕ) → (give_block geo img).out ≡ got a → (a * geo.fsize + geo.bsize ≤ length img) × (length img ≤ 1073741824)
unfolding give_block
given-inside geo img fr a e = go (chosen geo img) refl e
  where
    go : (c : Option (ℕ × ℕ)) → chosen geo img ≡ c → (giving geo img c).out ≡ got a → (a * geo.fsize + geo.bsize ≤ length img) × (length img ≤ 1073741824)
    go None q e = absurd (let z : ◌≡◌ {A = ℕ} 0 1 = cc in let y : ⊥ = omega arith in y)
    go (Some (g, h)) q e =
        let i = chosen-is geo img g h q in
        let s = spots geo img fr g i.group in
        let p : block_address geo g h ≡ a = cc in
        let m = byte_at-mono geo g (block_inside geo img fr g h i.group i.block) in
        let d = byte_at-add geo g (geo.frag * h) geo.frag in
        let u : a * geo.fsize ≡ byte_at geo g (geo.frag * h) = ap (λ (x : ℕ). x * geo.fsize) (sym p) ∙ block-place geo g h in
        let f : geo.frag * geo.fsize ≡ geo.bsize = mul_comm geo.frag geo.fsize ∙ fr.sizes.fsize in
        (omega arith, s.small)

-- a number above all its stores: the whole call
pub give-whole : (geo : Geometry) (img s : List ℕ) (o : Out ℕ) (n : ℕ) → (s, o, n) ≡ cut_leaves 18446744073709551615 (give_block geo) img → (s, o) ≡ leaves (give_block geo) img
unfolding leaves
give-whole geo img s o n e =
    let m = give-most geo img in
    let es : s ≡ cut_act 18446744073709551615 (give_block geo) img = ap (λ (t : List ℕ × Out ℕ × ℕ). t.0) e in
    let eo : o ≡ (give_block geo img).out = ap (λ (t : List ℕ × Out ℕ × ℕ). t.1) e in
    let ew : cut_act 18446744073709551615 (give_block geo) img ≡ (leaves (give_block geo) img).0 = cut-whole 18446744073709551615 (give_block geo) img (omega arith) in
    λ i. ((es ∙ ew) i, eo i)

module _ (geo : Geometry) (img s : List ℕ) (o : Out ℕ) (n : ℕ) (e : (s, o, n) ≡ cut_leaves 18446744073709551615 (give_block geo) img) where
  pub zeroed-in : Frame geo img → (a : ℕ) → o ≡ got a → (a * geo.fsize + geo.bsize ≤ length s) × (a * geo.fsize + geo.bsize ≤ 1073741824)
  zeroed-in fr a q =
      let w = give-whole geo img s o n e in
      let i = given-inside geo img fr a (left_out (give_block geo) img w ∙ q) in
      let l : length s ≡ length img = ap length (left-image (give_block geo) img w) ∙ length-apply_all (give_block geo img).stores img in
      (omega arith, omega arith)

  pub zeroed-made : (a : ℕ) → o ≡ got a → (x : List ℕ) → x ≡ put (a * geo.fsize) (zeros geo.bsize) s → (x, got a) ≡ leaves (give_zeroed geo) img
  unfolding give_zeroed zero_write
  zeroed-made a q x ex =
      rw (ex, ← apply-one (zero_write geo a) s)
      (leaves-pure a (apply (zero_write geo a ∷ []) s)
      ∙ step_store (zero_write geo a ∷ []) (λ _. pure a) s
      ∙ step-good (give_block geo) _ img (give-whole geo img s o n e) q)

  pub zeroed-not : (r : Refusal) → o ≡ refused r → (s, refused r) ≡ leaves (give_zeroed geo) img
  unfolding give_zeroed
  zeroed-not r q = step-bad (give_block geo) _ img (give-whole geo img s o n e) q
