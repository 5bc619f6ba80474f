-- The laws of an inode freed: the cases as the code meets them, and that the layout stays. Assumes nothing.
use mathlib.Core.Path.{◌≡◌, refl, sym, ap, ◌∙◌}
use mathlib.Core.Bool.{Bool, true, false, not}
use mathlib.Core.List.{List, [], ◌∷◌}
use Prim.Native.Nat.{ℕ, suc, ◌+◌, ◌-◌, ◌*◌, ◌/◌, ◌%◌, ◌≤◌, ◌<◌}
use native.Mathlib.Nat.{div-add-mod', zero-mul, zero-add, mod-lt}
use native.Mathlib.Omega.{arith}
use lib.ListN.{length}
use lib.Seq.{ext_get_or}
use lib.Dec.{eqb}
use borrow.Author.Tests.{eq-eqb, ne_eqb}
use Rattle.refusal.specs.declared.Refusal.{Refusal}
use Rattle.refusal.specs.declared.Refusal.TheVariants.{Damaged}
use Rattle.field.specs.Field.{part, put, zeros}
use Rattle.field.proofs.Laws.{length-zeros, length-part, length-put, part_at, part-put}
use Rattle.store.specs.Store.{apply}
use Rattle.store.specs.Where.{none, more, WriteIn, Range}
use Rattle.store.specs.Act.{Out, got, refused, pure, refuse, store, choose, each, Left, leaves}
use Rattle.store.proofs.StoreLaws.{apply-one}
use Rattle.store.proofs.ActLaws.{leaves-pure, leaves-refuse, leaves-store, step-good, step-bad, step_store, choose-yes, choose_no, each-end, each-good, each-bad}
use Rattle.volume.specs.declared.Geometry.{Geometry}
use Rattle.volume.specs.Volume.{inode_at}
use Rattle.bits.specs.Bits.{frag_free, is_clear}
use Rattle.bits.proofs.BitsLaws.{clear-is}
use Rattle.sound.specs.Sound.{used_at}
use Rattle.inode.specs.declared.Shape.{Shape}
use Rattle.inode.specs.Shape.{shape_of, address_at, in_place}
use Rattle.inode.specs.Places.{nlink_at, nlink_write}
use Rattle.inode.proofs.PlaceLaws.{nlink-inside}
use Rattle.frame.specs.Frame.{Frame}
use Rattle.frame.proofs.Places.{inode-group}
use Rattle.books.proofs.SteadyLaws.{steady-refl}
use Rattle.books.proofs.KeepLaws.{Keeps, keeps_from, kept-left, keeps-bind, keeps-pure, keeps-refuse, keeps-choose, keeps-each, keeps-read}
use Rattle.ialloc_tree.specs.Tree.{walk, free_tree}
use Rattle.ialloc_tree.proofs.TreeLaws.{keeps-tree}
use Rattle.ialloc_give.specs.Marks.{used_write, mark_used, count_inode}
use Rattle.ialloc_give.proofs.MarkLaws.{mark-left, keeps-store, keeps-mark, keeps_count, record_steady}
use Rattle.ialloc_free.specs.Free.{zero_record, clear_used, free_address, free_addresses, free_data, free_unlinked, unlink, free_inode}

-- ---- the bit

module _ (geo : Geometry) (g k : ℕ) (img : List ℕ) where
  clear-leaves : leaves (choose (is_clear img (used_at geo g img) k) (refuse Damaged) (mark_used 0 geo g k)) img ≡ leaves (clear_used geo g k) img
  unfolding clear_used leaves
  clear-leaves = refl

  module _ (at : ℕ) (b : Bool) (ea : at ≡ used_at geo g img) (eb : b ≡ frag_free img at k) where
    is-clear : is_clear img (used_at geo g img) k ≡ not b
    is-clear = rw (← ea, eb) (clear-is img at k)

    pub clear-made : b ≡ true → {u : ℕ} {x : List ℕ} → u ≡ 0 → x ≡ apply (used_write u geo g k img ∷ []) img → ◌≡◌ {A = Left (Unit {0})} (x, got (tt {0})) (leaves (clear_used geo g k) img)
    clear-made e d q = mark-left 0 geo g k img d q ∙ choose_no (refuse Damaged) (mark_used 0 geo g k) img (is-clear ∙ ap not e) ∙ clear-leaves

    pub clear-bad : b ≡ false → ◌≡◌ {A = Left (Unit {0})} (img, refused Damaged) (leaves (clear_used geo g k) img)
    clear-bad e = leaves-refuse Damaged img ∙ choose-yes (refuse Damaged) (mark_used 0 geo g k) img (is-clear ∙ ap not e) ∙ clear-leaves

-- ---- the addresses: "12 direct and 3 indirect"

module _ (geo : Geometry) (s : Shape) (rec : List ℕ) (held : ℕ) where
  -- a direct one is of the block at its own index
  pub direct-address : (k : ℕ) → k < 12 → free_address geo s rec k held ≡ free_tree geo s 0 (address_at geo.order 0 k rec) k held
  unfolding free_address
  direct-address k l = let e : k - 11 ≡ 0 = omega arith in rw e

  -- the others lead 1, 2 and 3 lists down, from the first of their places on
  pub list-address : (l : ℕ) → free_address geo s rec (12 + l) held ≡ free_tree geo s (suc l) (address_at geo.order 0 (12 + l) rec) 0 held
  unfolding free_address walk
  list-address l = let e : 12 + l - 11 ≡ suc l = omega arith in rw e

-- ---- the addresses, as a loop meets them: the first k are done, and held is carried

module _ (geo : Geometry) (s : Shape) (rec : List ℕ) where
  address-left : (k held level a : ℕ) (img : List ℕ) {x : List ℕ} {o : Out ℕ} → level ≡ k - 11 → a ≡ address_at geo.order 0 k rec
      → (x, o) ≡ leaves (free_tree geo s level a k held) img → (x, o) ≡ leaves (free_address geo s rec k held) img
  unfolding free_address
  address-left k held level a img el ea r = rw (← el, ← ea) r

  module _ (start : List ℕ) (k held : ℕ) (img : List ℕ) (inv : leaves (each (free_address geo s rec) (15 - k) k held) img ≡ leaves (each (free_address geo s rec) 15 0 s.blocks) start) where
    module _ (l : k < 15) (level a : ℕ) (el : level ≡ k - 11) (ea : a ≡ address_at geo.order 0 k rec) {x : List ℕ} {o : Out ℕ} (r : (x, o) ≡ leaves (free_tree geo s level a k held) img) where
      pub addresses-good : {h : ℕ} → o ≡ got h → leaves (each (free_address geo s rec) (15 - (k + 1)) (k + 1) h) x ≡ leaves (each (free_address geo s rec) 15 0 s.blocks) start
      addresses-good q = each-good (free_address geo s rec) 15 k img held l (address-left k held level a img el ea r) q ∙ inv

      pub addresses-bad : {e : Refusal} → o ≡ refused e → ◌≡◌ {A = Left (Unit {0})} (x, refused e) (leaves (free_addresses geo s rec) start)
      unfolding free_addresses
      addresses-bad q = step-bad (each (free_address geo s rec) 15 0 s.blocks) (λ _. pure (tt {0})) start (each-bad (free_address geo s rec) 15 k img held l (address-left k held level a img el ea r) q ∙ inv) refl

    pub addresses-end : 15 ≤ k → ◌≡◌ {A = Left (Unit {0})} (img, got (tt {0})) (leaves (free_addresses geo s rec) start)
    unfolding free_addresses
    addresses-end l = leaves-pure (tt {0}) img ∙ step-good (each (free_address geo s rec) 15 0 s.blocks) (λ _. pure (tt {0})) start (each-end (free_address geo s rec) 15 k img held l ∙ inv) refl

module _ (geo : Geometry) (rec img : List ℕ) (s : Shape) (es : s ≡ shape_of geo.order 0 rec) where
  pub data-none : in_place s ≡ true → ◌≡◌ {A = Left (Unit {0})} (img, got (tt {0})) (leaves (free_data geo rec) img)
  unfolding free_data
  data-none e = leaves-pure (tt {0}) img ∙ choose-yes _ _ img (rw (← es) e)

  pub data-all : in_place s ≡ false → {x : List ℕ} {o : Out (Unit {0})} → (x, o) ≡ leaves (free_addresses geo s rec) img → (x, o) ≡ leaves (free_data geo rec) img
  unfolding free_data
  data-all e r = r ∙ ap (λ (t : Shape). leaves (free_addresses geo t rec) img) es ∙ choose_no _ _ img (rw (← es) e)

-- ---- the inode

module _ (geo : Geometry) (i : ℕ) (img : List ℕ) (at : ℕ) (ea : at ≡ inode_at geo i) {x : List ℕ} (ex : x ≡ put at (zeros 256) img) where
  zeroed : x ≡ apply (zero_record (inode_at geo i) ∷ []) img
  unfolding zero_record
  zeroed = ex ∙ ap (λ (p : ℕ). put p (zeros 256) img) ea ∙ sym (apply-one (zero_record (inode_at geo i)) img)

  pub zero_left : ◌≡◌ {A = Left (Unit {0})} (x, got (tt {0})) (leaves (store (zero_record (inode_at geo i) ∷ [])) img)
  zero_left = rw zeroed (leaves-store (zero_record (inode_at geo i) ∷ []) img)

  -- of group g, as the code has it
  module _ (rec : List ℕ) (g : ℕ) (eg : g ≡ i / geo.ipg) {y : List ℕ} {o : Out (Unit {0})} (ec : (y, o) ≡ leaves (clear_used geo g (i % geo.ipg)) x) where
    cleared : (y, o) ≡ leaves (clear_used geo (i / geo.ipg) (i % geo.ipg)) x
    cleared = ec ∙ ap (λ (h : ℕ). leaves (clear_used geo h (i % geo.ipg)) x) eg

    pub unlinked-bad : {e : Refusal} → o ≡ refused e → ◌≡◌ {A = Left (Unit {0})} (y, refused e) (leaves (free_unlinked geo i rec) img)
    unfolding free_unlinked
    unlinked-bad q = step-bad (clear_used geo (i / geo.ipg) (i % geo.ipg)) _ x cleared q ∙ step-good (store (zero_record (inode_at geo i) ∷ [])) _ img zero_left refl

    pub unlinked-made : o ≡ got (tt {0}) → {z w : List ℕ} {r : Out (Unit {0})} → ◌≡◌ {A = Left (Unit {0})} (z, got (tt {0})) (leaves (count_inode true geo g) y)
        → (w, r) ≡ leaves (free_data geo rec) z → (w, r) ≡ leaves (free_unlinked geo i rec) img
    unfolding free_unlinked
    unlinked-made q {z} {w} ez ew =
        ew ∙ step-good (count_inode true geo (i / geo.ipg)) _ y (ez ∙ ap (λ (h : ℕ). leaves (count_inode true geo h) y) eg) refl
        ∙ step-good (clear_used geo (i / geo.ipg) (i % geo.ipg)) _ x cleared q
        ∙ step-good (store (zero_record (inode_at geo i) ∷ [])) _ img zero_left refl

module _ (geo : Geometry) (i : ℕ) (img : List ℕ) (at n : ℕ) (ea : at ≡ inode_at geo i) (en : n ≡ nlink_at geo.order at img) where
  free-is : leaves (unlink geo i (part 256 at img) n) img ≡ leaves (free_inode geo i) img
  unfolding free_inode leaves
  free-is = rw (en, ea)

  pub free-none : n ≡ 0 → ◌≡◌ {A = Left (Unit {0})} (img, refused Damaged) (leaves (free_inode geo i) img)
  unfolding unlink
  free-none z = leaves-refuse Damaged img ∙ choose-yes _ _ img (eq-eqb n 0 z) ∙ free-is

  module _ (some : n ≡ 0 → ⊥) {x : List ℕ} (ex : x ≡ apply (nlink_write geo.order at (n - 1) ∷ []) img) where
    left : {y : List ℕ} {o : Out (Unit {0})} → (y, o) ≡ leaves (choose (eqb n 1) (free_unlinked geo i (part 256 at img)) (pure (tt {0}))) x → (y, o) ≡ leaves (free_inode geo i) img
    unfolding unlink
    left r =
        r ∙ rw (ex, ea) (step_store (nlink_write geo.order (inode_at geo i) (n - 1) ∷ []) _ img) ∙ choose_no _ _ img (ne_eqb n 0 some) ∙ free-is

    pub free-fewer : (n ≡ 1 → ⊥) → ◌≡◌ {A = Left (Unit {0})} (x, got (tt {0})) (leaves (free_inode geo i) img)
    free-fewer e = left (leaves-pure (tt {0}) x ∙ choose_no _ _ x (ne_eqb n 1 e))

    pub free-last : n ≡ 1 → (rec : List ℕ) → rec ≡ part 256 at img → {y : List ℕ} {o : Out (Unit {0})} → (y, o) ≡ leaves (free_unlinked geo i rec) x → (y, o) ≡ leaves (free_inode geo i) img
    free-last e rec er r = left (r ∙ ap (λ (t : List ℕ). leaves (free_unlinked geo i t) x) er ∙ choose-yes _ _ x (eq-eqb n 1 e))

-- the 256 bytes copied
pub copied : (at : ℕ) (img xs : List ℕ) → length xs ≡ 256 → at + 256 ≤ length img → put 0 (part 256 at img) xs ≡ part 256 at img
copied at img xs e h =
    let l : length (part 256 at img) ≡ 256 = length-part 256 at img h in
    let m : length (put 0 (part 256 at img) xs) ≡ length xs = length-put 0 (part 256 at img) xs in
    ext_get_or 0 (put 0 (part 256 at img) xs) (part 256 at img) (m ∙ e ∙ sym l)
    (λ i b. rw (zero-add i) at (part_at 0 (part 256 at img) (put 0 (part 256 at img) xs) i (omega arith) (part-put 0 (part 256 at img) xs (omega arith))))

pub copied_long : (at : ℕ) (img xs rec : List ℕ) → length xs ≡ 256 → rec ≡ put 0 (part 256 at img) xs → 256 ≤ length rec
copied_long at img xs rec e er = rw (er, length-put 0 (part 256 at img) xs, e) (omega arith)

-- ---- the layout stays

-- an inode other than 0 is not the first of the first group
pub not-first : (i n : ℕ) → 0 < i → i / n ≡ 0 → i % n ≡ 0 → ⊥
not-first i n p q r =
    let e : i / n * n + i % n ≡ i = div-add-mod' i n in
    let z : i / n * n ≡ 0 = ap (λ (m : ℕ). m * n) q ∙ zero-mul n in
    omega arith

module _ (geo : Geometry) where
  pub keeps-clear : (g k : ℕ) → g < geo.ncg → k < geo.ipg → (g ≡ 0 → k ≡ 0 → ⊥) → Keeps geo (clear_used geo g k)
  unfolding clear_used
  keeps-clear g k lg lk n =
      keeps-read geo (λ x. choose (is_clear x (used_at geo g x) k) (refuse Damaged) (mark_used 0 geo g k))
      (λ x. keeps-choose geo (is_clear x (used_at geo g x) k) (keeps-refuse geo (Unit {0}) Damaged) (keeps-mark geo 0 g k lg lk (omega arith) (λ p q. absurd (n p q))))

  pub keeps-addresses : (s : Shape) (rec : List ℕ) → Keeps geo (free_addresses geo s rec)
  unfolding free_addresses free_address
  keeps-addresses s rec =
      keeps-bind geo (keeps-each geo (free_address geo s rec) (λ k h. keeps-tree geo s (k - 11) (address_at geo.order 0 k rec) k h) 15 0 s.blocks) (λ _. keeps-pure geo (tt {0}))

  pub keeps-data : (rec : List ℕ) → Keeps geo (free_data geo rec)
  unfolding free_data
  keeps-data rec = keeps-choose geo (in_place (shape_of geo.order 0 rec)) (keeps-pure geo (tt {0})) (keeps-addresses (shape_of geo.order 0 rec) rec)

  zero-inside : (at : ℕ) → WriteIn (Range at 256) (zero_record at)
  unfolding zero_record
  zero-inside at j lo hi = (lo, omega (arith, hi, length-zeros 256))

  module _ (i : ℕ) (l : i < geo.ncg * geo.ipg) where
    keeps-zero : Keeps geo (store (zero_record (inode_at geo i) ∷ []))
    keeps-zero = keeps-store geo (λ _. zero_record (inode_at geo i) ∷ []) (λ img fr. record_steady geo img fr i l (more (zero-inside (inode_at geo i)) none))

    keeps-nlink : (v : ℕ) → Keeps geo (store (nlink_write geo.order (inode_at geo i) v ∷ []))
    keeps-nlink v = keeps-store geo (λ _. nlink_write geo.order (inode_at geo i) v ∷ []) (λ img fr. record_steady geo img fr i l (more (nlink-inside geo.order (inode_at geo i) v) none))

    module _ (p : 0 < i) (lg : i / geo.ipg < geo.ncg) (lk : i % geo.ipg < geo.ipg) where
      keeps-unlinked : (rec : List ℕ) → Keeps geo (free_unlinked geo i rec)
      unfolding free_unlinked
      keeps-unlinked rec =
          keeps-bind geo keeps-zero
          (λ _. keeps-bind geo (keeps-clear (i / geo.ipg) (i % geo.ipg) lg lk (not-first i geo.ipg p))
          (λ _. keeps-bind geo (keeps_count geo true (i / geo.ipg) lg) (λ _. keeps-data rec)))

      keeps_placed : Keeps geo (free_inode geo i)
      unfolding free_inode unlink
      keeps_placed =
          keeps-read geo (λ x. unlink geo i (part 256 (inode_at geo i) x) (nlink_at geo.order (inode_at geo i) x))
          (λ x. keeps-choose geo (eqb (nlink_at geo.order (inode_at geo i) x) 0) (keeps-refuse geo (Unit {0}) Damaged)
          (keeps-bind geo (keeps-nlink (nlink_at geo.order (inode_at geo i) x - 1))
          (λ _. keeps-choose geo (eqb (nlink_at geo.order (inode_at geo i) x) 1) (keeps-unlinked (part 256 (inode_at geo i) x)) (keeps-pure geo (tt {0})))))

    -- where an inode stands in its group
    place_in : (img : List ℕ) → Frame geo img → i % geo.ipg < geo.ipg
    place_in img fr = mod-lt i (omega (arith, fr.laid.inodes))

    pub keeps-free : 0 < i → Keeps geo (free_inode geo i)
    keeps-free p = keeps_from geo (free_inode geo i) (λ img fr. keeps_placed p (inode-group geo img fr i l) (place_in img fr) img img (steady-refl geo img fr))

    -- ---- the frame after each step, as the code makes it

    pub zero-frame : (at : ℕ) → at ≡ inode_at geo i → {img x : List ℕ} → Frame geo img → x ≡ put at (zeros 256) img → Frame geo x
    zero-frame at ea {img} {x} fr ex = (kept-left geo keeps-zero fr (zero_left geo i img at ea ex)).frame

    pub group_of : (g : ℕ) → g ≡ i / geo.ipg → {img : List ℕ} → Frame geo img → (g < geo.ncg) × (i % geo.ipg < geo.ipg)
    group_of g eg {img} fr = (rw eg (inode-group geo img fr i l), place_in img fr)

    pub clear-frame : 0 < i → (g : ℕ) → g ≡ i / geo.ipg → {x y : List ℕ} {o : Out (Unit {0})} → Frame geo x → (y, o) ≡ leaves (clear_used geo g (i % geo.ipg)) x → Frame geo y
    clear-frame p g eg {x} fr ey = let q = group_of g eg fr in (kept-left geo (keeps-clear g (i % geo.ipg) q.0 q.1 (λ a b. not-first i geo.ipg p (sym eg ∙ a) b)) fr ey).frame

    pub nlink-frame : (at v : ℕ) → at ≡ inode_at geo i → {img x : List ℕ} → Frame geo img → x ≡ apply (nlink_write geo.order at v ∷ []) img → Frame geo x
    nlink-frame at v ea {img} {x} fr ex = rw (ex, ea) (record_steady geo img fr i l (more (nlink-inside geo.order (inode_at geo i) v) none)).frame
