-- The laws of an inode given out, and of a link more: the cases as the code meets them, and that the layout stays. Assumes nothing.
use Rattle.std.specs.Prelude.{Option, Some, None}
use Rattle.std.proofs.Common.{◌≡◌, ℕ, ◌+◌, ◌-◌, ◌*◌, ◌<◌, false, ltb, List, [], ◌∷◌, sym, refl, ap, ◌∙◌, arith, lt-ltb, ne_eqb}
use Rattle.refusal.specs.declared.Refusal.{Refusal}
use Rattle.refusal.specs.declared.Refusal.TheVariants.{LinkedInode, NoSpace, Damaged}
use Rattle.store.specs.Store.{apply}
use Rattle.store.specs.Where.{none, more}
use Rattle.store.specs.Act.{Out, got, refused, store, Left, leaves, Always}
use Rattle.store.proofs.ActLaws.{leaves-pure, leaves-refuse, leaves-store, step-good, step-bad}
use Rattle.volume.specs.declared.Geometry.{Geometry}
use Rattle.volume.specs.Volume.{inode_at}
use Rattle.inode.specs.declared.Inode.{Inode}
use Rattle.inode.specs.declared.InodeType.{InodeType}
use Rattle.inode.specs.declared.InodeType.TheVariants.{NamedPipe, CharDevice, Directory, BlockDevice, RegularFile, Symlink, Socket}
use Rattle.inode.specs.Kind.{type_number}
use Rattle.inode.specs.Places.{nlink_at, nlink_write, generation_at}
use Rattle.inode_record.specs.Record.{inode_store}
use Rattle.inode.proofs.PlaceLaws.{nlink-inside}
use Rattle.inode_record.proofs.RecordLaws.{inode-inside}
use Rattle.inode_run.specs.Judge.{ask}
use Rattle.frame.specs.Frame.{Frame}
use Rattle.books.specs.Work.{given}
use Rattle.books.specs.Books.{Steady}
use Rattle.books.proofs.SteadyLaws.{steady-refl}
use Rattle.books.proofs.KeepLaws.{Keeps, keeps_from, keeps-bind, keeps-pure, keeps-refuse, keeps_given, keeps-read}
use Rattle.ialloc_give.specs.Marks.{mark_used, count_inode}
use Rattle.ialloc_give.specs.Choose.{chosen, inode_number}
use Rattle.ialloc_give.specs.Give.{with_link, setup_test, set_up, give_at, give_place, give_inode, bump}
use Rattle.ialloc_give.proofs.MarkLaws.{always_at, keeps-store, keeps-mark, keeps_count, record_steady}
use Rattle.ialloc_give.proofs.ChooseLaws.{number_in, chosen-is}

-- ---- the record

-- a kind's number has 4 bits
pub kind-small : (k : InodeType) → type_number k < 16
unfolding type_number
kind-small NamedPipe = omega arith
kind-small CharDevice = omega arith
kind-small Directory = omega arith
kind-small BlockDevice = omega arith
kind-small RegularFile = omega arith
kind-small Symlink = omega arith
kind-small Socket = omega arith

module _ (geo : Geometry) (new : Inode) (i : ℕ) (img : List ℕ) where
  setup-is : leaves (given (setup_test geo i img) (λ n. store (inode_store geo.order (inode_at geo i) (with_link n new)))) img ≡ leaves (set_up geo new i) img
  unfolding set_up leaves
  setup-is = refl

  pub setup-refused : {e : Refusal} → setup_test geo i img ≡ refused e → ◌≡◌ {A = Left (Unit {0})} (img, refused e) (leaves (set_up geo new i) img)
  setup-refused {e} q = leaves-refuse e img ∙ rw (← setup-is, q)

  pub setup-linked : (nlink_at geo.order (inode_at geo i) img ≡ 0 → ⊥) → ◌≡◌ {A = Left (Unit {0})} (img, refused LinkedInode) (leaves (set_up geo new i) img)
  unfolding setup_test
  setup-linked n = leaves-refuse LinkedInode img ∙ rw (← setup-is, ne_eqb (nlink_at geo.order (inode_at geo i) img) 0 n)

  module _ (z : nlink_at geo.order (inode_at geo i) img ≡ 0) where
    pub setup-full : generation_at geo.order (inode_at geo i) img ≡ 4294967295 → ◌≡◌ {A = Left (Unit {0})} (img, refused Damaged) (leaves (set_up geo new i) img)
    unfolding setup_test
    setup-full e = leaves-refuse Damaged img ∙ rw (← setup-is, z, e)

    pub setup-made : generation_at geo.order (inode_at geo i) img < 4294967295 → {x : List ℕ} → x ≡ apply (inode_store geo.order (inode_at geo i) (with_link (generation_at geo.order (inode_at geo i) img + 1) new)) img
        → ◌≡◌ {A = Left (Unit {0})} (x, got (tt {0})) (leaves (set_up geo new i) img)
    unfolding setup_test
    setup-made l e = rw (e, ← setup-is, z, lt-ltb (generation_at geo.order (inode_at geo i) img) 4294967295 l) (leaves-store _ img)

-- the same as the code stores it
pub setup_left : (geo : Geometry) (new : Inode) (i : ℕ) (img : List ℕ) (at n old : ℕ) (v : Inode) {x : List ℕ} → at ≡ inode_at geo i
    → n ≡ nlink_at geo.order at img → n ≡ 0 → old ≡ generation_at geo.order at img → (old ≡ 4294967295 → ⊥) → old < 4294967296 → v ≡ with_link (old + 1) new
    → x ≡ apply (inode_store geo.order at v) img
    → ◌≡◌ {A = Left (Unit {0})} (x, got (tt {0})) (leaves (set_up geo new i) img)
setup_left geo new i img at n old v {x} ea en z eo no_top top ev ex =
    setup-made geo new i img (rw (← ea) (sym en ∙ z)) (rw (← ea, ← eo) (omega arith)) {x = x} (rw (← ea, ← eo, ← ev) ex)

-- ---- a link more

module _ (geo : Geometry) (i : ℕ) (img : List ℕ) where
  bump-is : leaves (given (ask (ltb (nlink_at geo.order (inode_at geo i) img) 65535) Damaged (got (nlink_at geo.order (inode_at geo i) img))) (λ n. store (nlink_write geo.order (inode_at geo i) (n + 1) ∷ []))) img
      ≡ leaves (bump geo i) img
  unfolding bump leaves
  bump-is = refl

  pub bump-full : nlink_at geo.order (inode_at geo i) img ≡ 65535 → ◌≡◌ {A = Left (Unit {0})} (img, refused Damaged) (leaves (bump geo i) img)
  bump-full e = leaves-refuse Damaged img ∙ rw (← bump-is, e)

  pub bump-made : nlink_at geo.order (inode_at geo i) img < 65535 → {x : List ℕ} → x ≡ apply (nlink_write geo.order (inode_at geo i) (nlink_at geo.order (inode_at geo i) img + 1) ∷ []) img
      → ◌≡◌ {A = Left (Unit {0})} (x, got (tt {0})) (leaves (bump geo i) img)
  bump-made l e = rw (e, ← bump-is, lt-ltb (nlink_at geo.order (inode_at geo i) img) 65535 l) (leaves-store _ img)

-- the same as the code stores it
pub bump-left : (geo : Geometry) (i : ℕ) (img : List ℕ) (at n : ℕ) {x : List ℕ} → at ≡ inode_at geo i → n ≡ nlink_at geo.order at img → (n ≡ 65535 → ⊥) → n < 65536
    → x ≡ apply (nlink_write geo.order at (n + 1) ∷ []) img
    → ◌≡◌ {A = Left (Unit {0})} (x, got (tt {0})) (leaves (bump geo i) img)
bump-left geo i img at n {x} ea en no_top top ex = bump-made geo i img (rw (← ea, ← en) (omega arith)) {x = x} (rw (← ea, ← en) ex)

-- ---- an inode given out

module _ (geo : Geometry) (new : Inode) (g k : ℕ) (img : List ℕ) (i : ℕ) (ei : i ≡ inode_number geo g k) {x y : List ℕ} {o : Out (Unit {0})}
    (em : ◌≡◌ {A = Left (Unit {0})} (x, got (tt {0})) (leaves (mark_used 1 geo g k) img)) (es : (y, o) ≡ leaves (set_up geo new i) x) where
  set-up : (y, o) ≡ leaves (set_up geo new (inode_number geo g k)) x
  set-up = es ∙ ap (λ (n : ℕ). leaves (set_up geo new n) x) ei

  pub give-refused : {e : Refusal} → o ≡ refused e → ◌≡◌ {A = Left ℕ} (y, refused e) (leaves (give_at geo new g k) img)
  unfolding give_at
  give-refused q = step-bad (set_up geo new (inode_number geo g k)) _ x set-up q ∙ step-good (mark_used 1 geo g k) _ img em refl

  pub give-made : o ≡ got (tt {0}) → {z : List ℕ} → ◌≡◌ {A = Left (Unit {0})} (z, got (tt {0})) (leaves (count_inode false geo g) y)
      → ◌≡◌ {A = Left ℕ} (z, got i) (leaves (give_at geo new g k) img)
  unfolding give_at
  give-made q {z} ec =
      ap (λ (n : ℕ). (z, got n)) ei
      ∙ leaves-pure (inode_number geo g k) z ∙ step-good (count_inode false geo g) _ y ec refl
      ∙ step-good (set_up geo new (inode_number geo g k)) _ x set-up q ∙ step-good (mark_used 1 geo g k) _ img em refl

-- where the choice leads
pub give-chosen : (geo : Geometry) (new : Inode) (img : List ℕ) {p : (Option (ℕ × ℕ))} → p ≡ chosen geo img → leaves (give_place geo new p) img ≡ leaves (give_inode geo new) img
unfolding give_inode leaves
give-chosen geo new img e = rw e

-- ---- the layout stays

module _ (geo : Geometry) where
  pub keeps-setup : (new : Inode) (i : ℕ) → i < geo.ncg * geo.ipg → Keeps geo (set_up geo new i)
  unfolding set_up
  keeps-setup new i l =
      keeps-read geo (λ x. given (setup_test geo i x) (λ n. store (inode_store geo.order (inode_at geo i) (with_link n new))))
      (λ x. keeps_given geo (setup_test geo i x) (λ n. keeps-store geo (λ _. inode_store geo.order (inode_at geo i) (with_link n new)) (λ img fr. record_steady geo img fr i l (inode-inside geo.order (inode_at geo i) (with_link n new)))))

  pub keeps-bump : (i : ℕ) → i < geo.ncg * geo.ipg → Keeps geo (bump geo i)
  unfolding bump
  keeps-bump i l =
      keeps-read geo (λ x. given (ask (ltb (nlink_at geo.order (inode_at geo i) x) 65535) Damaged (got (nlink_at geo.order (inode_at geo i) x))) (λ n. store (nlink_write geo.order (inode_at geo i) (n + 1) ∷ [])))
      (λ x. keeps_given geo (ask (ltb (nlink_at geo.order (inode_at geo i) x) 65535) Damaged (got (nlink_at geo.order (inode_at geo i) x)))
      (λ n. keeps-store geo (λ _. nlink_write geo.order (inode_at geo i) (n + 1) ∷ []) (λ img fr. record_steady geo img fr i l (more (nlink-inside geo.order (inode_at geo i) (n + 1)) none))))

  pub keeps-give-at : (new : Inode) (g k : ℕ) → g < geo.ncg → k < geo.ipg → Keeps geo (give_at geo new g k)
  unfolding give_at
  keeps-give-at new g k lg lk =
      keeps-bind geo (keeps-mark geo 1 g k lg lk (omega arith) (λ _ _. refl))
      (λ _. keeps-bind geo (keeps-setup new (inode_number geo g k) (number_in geo g k lg lk))
      (λ _. keeps-bind geo (keeps_count geo false g lg) (λ _. keeps-pure geo (inode_number geo g k))))

  pub keeps-give : (new : Inode) → Keeps geo (give_inode geo new)
  unfolding give_inode
  keeps-give new = keeps_from geo _ (λ img fr. always_at (λ x. give_place geo new (chosen geo x)) img (go img fr (chosen geo img) refl))
    where
      go : (img : List ℕ) → Frame geo img → (p : Option (ℕ × ℕ)) → chosen geo img ≡ p → Always (Steady geo img) (give_place geo new p) img
      go img fr (Some (g, k)) q = let i = chosen-is geo img g k q in keeps-give-at new g k i.group i.inode img img (steady-refl geo img fr)
      go img fr None q = keeps-refuse geo ℕ NoSpace img img (steady-refl geo img fr)
