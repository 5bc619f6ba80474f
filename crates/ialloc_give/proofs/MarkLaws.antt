-- The books of inodes: what a bit's store and the counts leave, and that the layout stays. Assumes nothing.
use Rattle.std.proofs.Common.{◌≡◌, ℕ, ◌+◌, ◌-◌, ◌*◌, ◌/◌, ◌%◌, ◌^◌, ◌<◌, Bool, true, false, ◌⊎◌, List, [], ◌∷◌, length, sym, refl, ap, ◌∙◌, subst, inl, inr, ⊎_elim, arith}
use native.Mathlib.Decide.{ℕ_discrete}
use Rattle.field.specs.Field.{Kept}
use Rattle.field.proofs.Laws.{kept_wider}
use Rattle.store.specs.Store.{Store, apply, apply_if}
use Rattle.store.specs.Where.{none, more, WriteIn, StoreIn, Range}
use Rattle.store.specs.Act.{got, Act, reads, store, Left, leaves, Always}
use Rattle.store.proofs.StoreLaws.{apply-one, apply_if-yes}
use Rattle.store.proofs.ActLaws.{leaves-store, step_store, step_read, stores-reads}
use Rattle.store.proofs.CutLaws.{cut_act_lem, cut-none}
use Rattle.store.proofs.AlwaysLaws.{always-store}
use Rattle.store.proofs.OnlyLaws.{kept-but-store, kept-store}
use Rattle.volume.specs.declared.Geometry.{Geometry}
use Rattle.volume.specs.declared.Count.TheVariants.{Nifree}
use Rattle.volume.specs.Volume.{cg_at, count_at, total_at, inode_at}
use Rattle.volume.proofs.Laws.{count-place, total-place}
use Rattle.bits.specs.Bits.{bit_at, put_bits_at}
use Rattle.bits.proofs.BitsLaws.{put_bits_at-is, kept-put_bits_at, kept-bit_at, bit_at-inside, bit_at-outside}
use Rattle.sound.specs.Sound.{group_at, used_at}
use Rattle.frame.specs.Frame.{Frame}
use Rattle.frame.specs.Writes.{count_write, total_write}
use Rattle.frame.proofs.Places.{spots, inode-is}
use Rattle.frame.proofs.Stores.{record_apart, used-frame}
use Rattle.frame.proofs.WriteLaws.{up-is, down-is, count_in, total_in, count-frame, total-frame}
use Rattle.books.specs.Books.{Book, of_used, of_counts, of_totals, Steady}
use Rattle.books.proofs.SteadyLaws.{steady-refl, book-steady, table-steady}
use Rattle.books.proofs.KeepLaws.{Keeps, keeps_from, keeps-bind}
use Rattle.ialloc_give.specs.Marks.{used_write, mark_used, counted, count_inode}

-- ---- what they leave

module _ (v : ℕ) (geo : Geometry) (g k : ℕ) (img : List ℕ) where
  pub apply-used : apply (used_write v geo g k img ∷ []) img ≡ put_bits_at v img (used_at geo g img) k 1
  unfolding used_write
  apply-used = apply-one (used_write v geo g k img) img ∙ sym (put_bits_at-is v img (used_at geo g img) k 1)

  pub mark-left : {u : ℕ} {x : List ℕ} → u ≡ v → x ≡ apply (used_write u geo g k img ∷ []) img → ◌≡◌ {A = Left (Unit {0})} (x, got (tt {0})) (leaves (mark_used v geo g k) img)
  unfolding mark_used leaves
  mark-left d e = rw (e, d) (leaves-store (used_write v geo g k img ∷ []) img)

module _ (freed : Bool) (geo : Geometry) (g : ℕ) (img : List ℕ) where
  pub count_left : {x y : List ℕ} → x ≡ apply (count_write geo g Nifree (counted freed 4 (count_at geo.order Nifree (cg_at geo g) img)) ∷ []) img
      → y ≡ apply (total_write geo Nifree (counted freed 8 (total_at geo.order Nifree x)) ∷ []) x
      → ◌≡◌ {A = Left (Unit {0})} (y, got (tt {0})) (leaves (count_inode freed geo g) img)
  unfolding count_inode
  count_left {x} {y} ex ey =
      rw ey (leaves-store (total_write geo Nifree (counted freed 8 (total_at geo.order Nifree x)) ∷ []) x)
      ∙ step_read (total_at geo.order Nifree) (λ t. store (total_write geo Nifree (counted freed 8 t) ∷ [])) x
      ∙ rw ex (step_store (count_write geo g Nifree (counted freed 4 (count_at geo.order Nifree (cg_at geo g) img)) ∷ []) _ img)
      ∙ step_read (count_at geo.order Nifree (cg_at geo g)) _ img

  -- the same as the code stores them
  pub counted-left : (n t a b : ℕ) {x y : List ℕ} → n ≡ count_at geo.order Nifree (cg_at geo g) img → a ≡ counted freed 4 n → x ≡ apply_if true (count_write geo g Nifree a ∷ []) img
      → t ≡ total_at geo.order Nifree x → b ≡ counted freed 8 t → y ≡ apply_if true (total_write geo Nifree b ∷ []) x
      → ◌≡◌ {A = Left (Unit {0})} (y, got (tt {0})) (leaves (count_inode freed geo g) img)
  counted-left n t a b {x} {y} en ea ex et eb ey =
      count_left {x = x} {y = y}
      (ex ∙ apply_if-yes refl _ img ∙ ap (λ (z : ℕ). apply (count_write geo g Nifree z ∷ []) img) (ea ∙ ap (counted freed 4) en))
      (ey ∙ apply_if-yes refl _ x ∙ ap (λ (z : ℕ). apply (total_write geo Nifree z ∷ []) x) (eb ∙ ap (counted freed 8) et))

pub counted-up : (w n : ℕ) {freed : Bool} → freed ≡ true → (n + 1) % 256 ^ w ≡ counted freed w n
counted-up w n e = rw e (sym (up-is w n 1))

pub counted-down : (w n : ℕ) {freed : Bool} → freed ≡ false → (n + (256 ^ w - 1)) % 256 ^ w ≡ counted freed w n
counted-down w n e = rw e (sym (down-is w n 1))

-- ---- one store keeps the layout

module _ (geo : Geometry) (img : List ℕ) (fr : Frame geo img) where
  pub count-steady : (g : ℕ) → g < geo.ncg → (v : ℕ) → Steady geo img (apply (count_write geo g Nifree v ∷ []) img)
  count-steady g l v =
      book-steady geo img fr _ (count-frame geo img fr g Nifree v l)
      (kept-but-store (more (count_in geo g Nifree v (λ j r. let q = count-place Nifree in of_counts g l (omega arith, omega arith))) none) img)

  pub total-steady : (v : ℕ) → Steady geo img (apply (total_write geo Nifree v ∷ []) img)
  total-steady v =
      book-steady geo img fr _ (total-frame geo img fr Nifree v)
      (kept-but-store (more (total_in geo Nifree v (λ j r. let q = total-place Nifree in of_totals (omega arith, omega arith))) none) img)

  -- into the record of an inode
  pub record_steady : (i : ℕ) → i < geo.ncg * geo.ipg → {s : Store} → StoreIn (Range (inode_at geo i) 256) s → Steady geo img (apply s img)
  record_steady i l {s} p =
      let q = inode-is geo img fr i (inode_at geo i) l refl in
      table-steady geo img fr (i / geo.ipg) (inode_at geo i) 256 (apply s img) q.group q.first q.last (kept-store p img)

  -- into the inode map, where inode 0 stays in use
  module _ (v g k : ℕ) (lg : g < geo.ncg) (lk : k < geo.ipg) where
    used-inside : k / 8 < geo.ipg / 8
    used-inside = omega (arith, lk, fr.laid.eights)

    used_from : used_at geo g img + k / 8 < length img
    used_from = let s = spots geo img fr g lg in omega (arith, used-inside)

    pub used-book : WriteIn (Book geo img) (used_write v geo g k img)
    unfolding used_write
    used-book = λ j lo hi. of_used g lg (omega (arith, lo), omega (arith, hi, used-inside))

    pub kept-used : Kept (used_at geo g img) (geo.ipg / 8) img (put_bits_at v img (used_at geo g img) k 1)
    kept-used = kept_wider (used_at geo g img) (geo.ipg / 8) (omega arith) (omega (arith, used-inside)) (kept-put_bits_at v img (used_at geo g img) k 1)

    module _ (two : v < 2) (stays : g ≡ 0 → k ≡ 0 → v ≡ 1) where
      zero_in : g ≡ 0 → Dec (k ≡ 0) → bit_at (put_bits_at v img (used_at geo g img) k 1) (used_at geo g img) 0 ≡ 1
      zero_in e (yes z) = bit_at-inside v img (used_at geo g img) k 1 two (omega arith) used_from 0 (omega arith) (omega arith) ∙ stays e z
      zero_in e (no z) =
          bit_at-outside v img (used_at geo g img) k 1 two (omega arith) used_from 0 (inl (omega (arith, z)))
          ∙ subst (λ (x : ℕ). bit_at img (used_at geo x img) 0 ≡ 1) (sym e) fr.zero

      zero-stays : Dec (g ≡ 0) → bit_at (put_bits_at v img (used_at geo g img) k 1) (used_at geo 0 img) 0 ≡ 1
      zero-stays (yes e) = rw (ap (λ (x : ℕ). used_at geo x img) (sym e)) (zero_in e (ℕ_discrete k 0))
      zero-stays (no n) =
          let s = spots geo img fr g lg in
          let t = spots geo img fr 0 fr.laid.groups in
          let u = fr.laid.inodes in
          kept-bit_at (used_at geo 0 img) 0 kept-used
          (⊎_elim (λ x. inl (omega arith)) (λ x. inr (omega arith))
          (record_apart geo img fr g (group_at geo g img).iusedoff (geo.ipg / 8) 0 (group_at geo 0 img).iusedoff 1 lg fr.laid.groups (omega arith) (omega arith) (λ e. absurd (n e))))
          ∙ fr.zero

      pub used-steady : Steady geo img (apply (used_write v geo g k img ∷ []) img)
      used-steady =
          book-steady geo img fr _
          (rw (apply-used v geo g k img) (used-frame geo img fr g _ lg kept-used (zero-stays (ℕ_discrete g 0))))
          (kept-but-store (more used-book none) img)

-- ---- the calls keep it at every cut

-- a call that depends on the image it meets
pub always_at : {A : Type 0} {P : List ℕ → Type 0} (f : List ℕ → Act A) (img : List ℕ) → Always P (f img) img → Always P (λ x. f x x) img
always_at f img p = record { holds = λ n. rw (cut_act_lem n (λ x. f x x) img, ← (cut_act_lem n (f img) img)) (p.holds n) }

module _ (geo : Geometry) where
  pub keeps-store : (s : List ℕ → Store) → ((img : List ℕ) → Frame geo img → Steady geo img (apply (s img) img)) → Keeps geo (λ img. store (s img) img)
  keeps-store s p = keeps_from geo _ (λ img fr. always_at (λ x. store (s x)) img (always-store (s img) (steady-refl geo img fr) (p img fr)))

  pub keeps-reads : {A : Type 0} (f : List ℕ → A) → Keeps geo (reads f)
  keeps-reads f start img s = record { holds = λ n. rw (cut_act_lem n (reads f) img, stores-reads f img, cut-none n img) s }

  pub keeps-mark : (v g k : ℕ) → g < geo.ncg → k < geo.ipg → v < 2 → (g ≡ 0 → k ≡ 0 → v ≡ 1) → Keeps geo (mark_used v geo g k)
  unfolding mark_used
  keeps-mark v g k lg lk two stays = keeps-store (λ img. used_write v geo g k img ∷ []) (λ img fr. used-steady geo img fr v g k lg lk two stays)

  pub keeps_count : (freed : Bool) (g : ℕ) → g < geo.ncg → Keeps geo (count_inode freed geo g)
  unfolding count_inode
  keeps_count freed g l =
      keeps-bind geo (keeps-reads (count_at geo.order Nifree (cg_at geo g)))
      (λ n. keeps-bind geo (keeps-store (λ _. count_write geo g Nifree (counted freed 4 n) ∷ []) (λ img fr. count-steady geo img fr g l _))
      (λ _. keeps-bind geo (keeps-reads (total_at geo.order Nifree)) (λ t. keeps-store (λ _. total_write geo Nifree (counted freed 8 t) ∷ []) (λ img fr. total-steady geo img fr _))))
