-- Laws of a directory's blocks written, moved and cut off: what each call leaves, case by case. Assumes nothing.
use Rattle.std.specs.Prelude.{Result, Ok, Err, MatchResult, IsErrAnd}
use mathlib.Core.Path.{◌≡◌, refl, sym, ap, ◌∙◌}
use mathlib.Core.Bool.{Bool, true, false}
use mathlib.Core.List.{List}
use Prim.Native.Nat.{ℕ, ◌+◌, ◌-◌, ◌*◌, ◌/◌, ◌≤◌, ◌<◌}
use lib.ListN.{length}
use Rattle.field.specs.Field.{zeros}
use Rattle.field.specs.declared.Order.{Order}
use Rattle.field.proofs.Laws.{length-zeros}
use Rattle.refusal.specs.declared.Refusal.{Refusal}
use Rattle.refusal.specs.declared.Refusal.TheVariants.{Damaged}
use Rattle.store.specs.Act.{Out, got, refused, Act, each, Left, leaves}
use Rattle.store.proofs.ActLaws.{step-good, step-bad, leaves-refuse, each-good, each-bad, each-end}
use Rattle.volume.specs.declared.Geometry.{Geometry}
use Rattle.dirblock.specs.declared.Linked.{Linked}
use Rattle.dirblock.specs.declared.Unlinked.{Unlinked}
use Rattle.dirblock.specs.Write.{put_rec}
use Rattle.dirblock.specs.Link.{link_in, unlink_in}
use Rattle.dirblock.proofs.WriteLaws.{length_rec}
use Rattle.inode_run.specs.declared.Spot.{Spot}
use Rattle.inode_run.specs.Find.{find_inode}
use Rattle.books.specs.Work.{damaged_out, or_damaged, given}
use Rattle.books.proofs.KeepLaws.{work_left}
use Rattle.ialloc_give.specs.Give.{bump}
use Rattle.ialloc_free.specs.Free.{free_inode}
use Rattle.inode_truncate.specs.Truncate.{truncated_out}
use Rattle.inode_setblock.specs.Set.{written_out}
use Rattle.truncate.specs.Call.{judged_work}
use Rattle.inode_write.specs.Write.{write_at}
use Rattle.dirfile.specs.Block.{dir_block, read_into}
use Rattle.dirwrite.specs.Write.{link_block, unlink_block, sole_block, link_grown, move_block, close_up, cut_to, drop_block, bump_found, free_found}
use Rattle.refusal.specs.declared.Damage.{Damage}

-- ---- work that goes on with what was read, or ends there

module _ {A : Type 0} (read : List ℕ → Out A) (f : A → Act (Unit {0})) (img : List ℕ) where
  read-good : {a : A} → read img ≡ got a → leaves (f a) img ≡ leaves (λ x. given (read x) f x) img
  unfolding leaves
  read-good e = rw e refl

  read-bad : {e : Refusal} → read img ≡ refused e → ◌≡◌ {A = Left (Unit {0})} (img, refused e) (leaves (λ x. given (read x) f x) img)
  unfolding leaves
  read-bad {e} h = rw h (leaves-refuse e img)

-- ---- one block

module _ (geo : Geometry) (at size k : ℕ) (img : List ℕ) (ok : Bool) (b : List ℕ) (r : dir_block geo at size img k ≡ read_into ok b) where
  read-yes : ok ≡ true → dir_block geo at size img k ≡ got b
  read-yes e = r ∙ ap (λ (t : Bool). read_into t b) e

  read_no : ok ≡ false → dir_block geo at size img k ≡ refused Damaged
  read_no e = r ∙ ap (λ (t : Bool). read_into t b) e

  module _ (inr kind : ℕ) (name : List ℕ) where
    pub link-unread : ok ≡ false → ◌≡◌ {A = Left (Unit {0})} (img, refused Damaged) (leaves (link_block geo at size k inr kind name) img)
    unfolding link_block
    link-unread e = read-bad (λ x. dir_block geo at size x k) (λ b. write_at geo at size (k * 512) (link_in geo.order b inr kind name).0) img (read_no e)

    pub link-read : ok ≡ true → (o : Order) → o ≡ geo.order → {c : List ℕ} {l : (Result Linked Damage)} → (c, l) ≡ link_in o b inr kind name
        → leaves (write_at geo at size (k * 512) c) img ≡ leaves (link_block geo at size k inr kind name) img
    unfolding link_block
    link-read e o q {c} {l} h =
        let g : c ≡ (link_in geo.order b inr kind name).0 = ap (λ (p : List ℕ × Result Linked Damage). p.0) h ∙ ap (λ (o : Order). (link_in o b inr kind name).0) q in
        ap (λ (c : List ℕ). leaves (write_at geo at size (k * 512) c) img) g
        ∙ read-good (λ x. dir_block geo at size x k) (λ b. write_at geo at size (k * 512) (link_in geo.order b inr kind name).0) img (read-yes e)

  module _ (name : List ℕ) where
    pub unlink-unread : ok ≡ false → ◌≡◌ {A = Left (Unit {0})} (img, refused Damaged) (leaves (unlink_block geo at size k name) img)
    unfolding unlink_block
    unlink-unread e = read-bad (λ x. dir_block geo at size x k) (λ b. write_at geo at size (k * 512) (unlink_in geo.order b name).0) img (read_no e)

    pub unlink-read : ok ≡ true → (o : Order) → o ≡ geo.order → {c : List ℕ} {l : (Result Unlinked Damage)} → (c, l) ≡ unlink_in o b name
        → leaves (write_at geo at size (k * 512) c) img ≡ leaves (unlink_block geo at size k name) img
    unfolding unlink_block
    unlink-read e o q {c} {l} h =
        let g : c ≡ (unlink_in geo.order b name).0 = ap (λ (p : List ℕ × Result Unlinked Damage). p.0) h ∙ ap (λ (o : Order). (unlink_in o b name).0) q in
        ap (λ (c : List ℕ). leaves (write_at geo at size (k * 512) c) img) g
        ∙ read-good (λ x. dir_block geo at size x k) (λ b. write_at geo at size (k * 512) (unlink_in geo.order b name).0) img (read-yes e)

  pub move-unread : ok ≡ false → ◌≡◌ {A = Left (Unit {0})} (img, refused Damaged) (leaves (move_block geo at size k) img)
  unfolding move_block
  move-unread e = read-bad (λ x. dir_block geo at size x k) (λ b. write_at geo at size ((k - 1) * 512) b) img (read_no e)

  pub move_read : ok ≡ true → leaves (write_at geo at size ((k - 1) * 512) b) img ≡ leaves (move_block geo at size k) img
  unfolding move_block
  move_read e = read-good (λ x. dir_block geo at size x k) (λ b. write_at geo at size ((k - 1) * 512) b) img (read-yes e)

-- ---- the directory grows

module _ (o : Order) (inr kind : ℕ) (name : List ℕ) where
  pub sole-made : (n : ℕ) → n ≡ length name → {block out : List ℕ} → block ≡ zeros 512
      → out ≡ put_rec o 0 (record { inr = inr; reclen = 512; kind = kind; namelen = n }) name block → out ≡ sole_block o inr kind name
  unfolding sole_block
  sole-made n e z h = h ∙ rw (e, z)

  pub sole-long : {b : List ℕ} → b ≡ sole_block o inr kind name → length b ≡ 512
  unfolding sole_block
  sole-long h = ap length h ∙ length_rec o 0 (record { inr = inr; reclen = 512; kind = kind; namelen = length name }) name (zeros 512) ∙ length-zeros 512

-- what is refused in the work is damage
module _ (m : Act (Unit {0})) (img : List ℕ) {x : List ℕ} {o : Out (Unit {0})} (r : (x, o) ≡ leaves m img) where
  pub work-done : o ≡ got (tt {0}) → ◌≡◌ {A = Left (Unit {0})} (x, got (tt {0})) (leaves (or_damaged m) img)
  work-done e = ap (λ (p : Out (Unit {0})). (x, damaged_out p)) (sym e) ∙ work_left m img r

  pub work-stop : {f : Refusal} → o ≡ refused f → ◌≡◌ {A = Left (Unit {0})} (x, refused Damaged) (leaves (or_damaged m) img)
  work-stop e = ap (λ (p : Out (Unit {0})). (x, damaged_out p)) (sym e) ∙ work_left m img r

pub work-told : (m : Act (Unit {0})) (img : List ℕ) (r q : Result (Unit {0}) Refusal) {x : List ℕ} {P : Refusal → Refusal → Type 0} → (x, truncated_out r) ≡ leaves m img
    → MatchResult r (λ u. q ≡ Ok u) (λ e. IsErrAnd q (P e)) → ((e f : Refusal) → P e f → f ≡ Damaged) → (x, written_out q) ≡ leaves (or_damaged m) img
work-told m img (Ok u) q w h p = rw h (work-done m img w refl)
work-told m img (Err e) (Ok u) w h p = absurd h
work-told m img (Err e) (Err f) w h p = rw (p e f h) (work-stop m img w refl)

module _ (geo : Geometry) (s : Spot) (inr kind : ℕ) (name img : List ℕ) (new : ℕ) {x : List ℕ} {o : Out (Unit {0})} (r : (x, o) ≡ leaves (or_damaged (judged_work geo s.at s.shape new)) img) (n : new ≡ s.shape.size + 512) where
  grown : (x, o) ≡ leaves (or_damaged (judged_work geo s.at s.shape (s.shape.size + 512))) img
  grown = r ∙ ap (λ (m : ℕ). leaves (or_damaged (judged_work geo s.at s.shape m)) img) n

  pub grown-done : o ≡ got (tt {0}) → (d : Order) → d ≡ geo.order → {b : List ℕ} → b ≡ sole_block d inr kind name
      → leaves (write_at geo s.at (s.shape.size + 512) s.shape.size b) x ≡ leaves (link_grown geo s inr kind name) img
  unfolding link_grown
  grown-done e d q h =
      ap (λ (b : List ℕ). leaves (write_at geo s.at (s.shape.size + 512) s.shape.size b) x) (h ∙ ap (λ (d : Order). sole_block d inr kind name) q)
      ∙ step-good (or_damaged (judged_work geo s.at s.shape (s.shape.size + 512))) (λ _. write_at geo s.at (s.shape.size + 512) s.shape.size (sole_block geo.order inr kind name)) img grown e

  pub grown-stop : {f : Refusal} → o ≡ refused f → ◌≡◌ {A = Left (Unit {0})} (x, refused f) (leaves (link_grown geo s inr kind name) img)
  unfolding link_grown
  grown-stop e = step-bad (or_damaged (judged_work geo s.at s.shape (s.shape.size + 512))) (λ _. write_at geo s.at (s.shape.size + 512) s.shape.size (sole_block geo.order inr kind name)) img grown e

-- ---- a block that goes

-- the blocks from q on, in the image as it is, lead to what all behind block k lead to at first
pub record Closing (geo : Geometry) (at size k : ℕ) (start img : List ℕ) (q : ℕ) : Type 0 where
  pub leads : leaves (each (λ q _. move_block geo at size q) (size / 512 - q) q (tt {0})) img ≡ leaves (close_up geo at size k) start

module _ (geo : Geometry) (at size k : ℕ) (start : List ℕ) where
  pub close-start : Closing geo at size k start start (k + 1)
  unfolding close_up
  close-start = record { leads = refl }

  module _ (img : List ℕ) (q : ℕ) (c : Closing geo at size k start img q) where
    pub close-end : size / 512 ≤ q → ◌≡◌ {A = Left (Unit {0})} (img, got (tt {0})) (leaves (close_up geo at size k) start)
    close-end l = each-end (λ q _. move_block geo at size q) (size / 512) q img (tt {0}) l ∙ c.leads

    module _ (l : q < size / 512) {x : List ℕ} {o : Out (Unit {0})} (r : (x, o) ≡ leaves (move_block geo at size q) img) where
      pub close-next : o ≡ got (tt {0}) → Closing geo at size k start x (q + 1)
      close-next e = record { leads = each-good (λ q _. move_block geo at size q) (size / 512) q img (tt {0}) l r e ∙ c.leads }

      pub close-stop : {f : Refusal} → o ≡ refused f → ◌≡◌ {A = Left (Unit {0})} (x, refused f) (leaves (close_up geo at size k) start)
      close-stop e = each-bad (λ q _. move_block geo at size q) (size / 512) q img (tt {0}) l r e ∙ c.leads

module _ (geo : Geometry) (i at size k : ℕ) (img : List ℕ) {x : List ℕ} {o : Out (Unit {0})} (r : (x, o) ≡ leaves (close_up geo at size k) img) where
  pub drop-closed : o ≡ got (tt {0}) → leaves (cut_to geo i (size - 512)) x ≡ leaves (drop_block geo i at size k) img
  unfolding drop_block
  drop-closed e = step-good (close_up geo at size k) (λ _. cut_to geo i (size - 512)) img r e

  pub drop-stop : {f : Refusal} → o ≡ refused f → ◌≡◌ {A = Left (Unit {0})} (x, refused f) (leaves (drop_block geo i at size k) img)
  unfolding drop_block
  drop-stop e = step-bad (close_up geo at size k) (λ _. cut_to geo i (size - 512)) img r e

-- ---- an inode that is found again

module _ (geo : Geometry) (i : ℕ) (img : List ℕ) where
  again : {s : Spot} → find_inode geo img i ≡ got s → damaged_out (find_inode geo img i) ≡ got s
  again e = ap damaged_out e

  lost : {f : Refusal} → find_inode geo img i ≡ refused f → damaged_out (find_inode geo img i) ≡ refused Damaged
  lost e = ap damaged_out e

  pub cut-found : (new : ℕ) {s : Spot} → find_inode geo img i ≡ got s → leaves (or_damaged (judged_work geo s.at s.shape new)) img ≡ leaves (cut_to geo i new) img
  unfolding cut_to
  cut-found new e = read-good (λ x. damaged_out (find_inode geo x i)) (λ s. or_damaged (judged_work geo s.at s.shape new)) img (again e)

  pub cut-lost : (new : ℕ) {f : Refusal} → find_inode geo img i ≡ refused f → ◌≡◌ {A = Left (Unit {0})} (img, refused Damaged) (leaves (cut_to geo i new) img)
  unfolding cut_to
  cut-lost new e = read-bad (λ x. damaged_out (find_inode geo x i)) (λ s. or_damaged (judged_work geo s.at s.shape new)) img (lost e)

  pub bump-again : {s : Spot} → find_inode geo img i ≡ got s → {x : List ℕ} {o p : Out (Unit {0})} → (x, o) ≡ leaves (bump geo i) img → o ≡ p → (x, p) ≡ leaves (bump_found geo i) img
  unfolding bump_found
  bump-again e {x} r q = ap (λ (p : Out (Unit {0})). (x, p)) (sym q) ∙ r ∙ read-good (λ x. damaged_out (find_inode geo x i)) (λ _. bump geo i) img (again e)

  pub bump-lost : {f : Refusal} → find_inode geo img i ≡ refused f → ◌≡◌ {A = Left (Unit {0})} (img, refused Damaged) (leaves (bump_found geo i) img)
  unfolding bump_found
  bump-lost e = read-bad (λ x. damaged_out (find_inode geo x i)) (λ _. bump geo i) img (lost e)

  pub free-again : {s : Spot} → find_inode geo img i ≡ got s → {x : List ℕ} {o p : Out (Unit {0})} → (x, o) ≡ leaves (free_inode geo i) img → o ≡ p → (x, p) ≡ leaves (free_found geo i) img
  unfolding free_found
  free-again e {x} r q = ap (λ (p : Out (Unit {0})). (x, p)) (sym q) ∙ r ∙ read-good (λ x. damaged_out (find_inode geo x i)) (λ _. free_inode geo i) img (again e)

  pub free-lost : {f : Refusal} → find_inode geo img i ≡ refused f → ◌≡◌ {A = Left (Unit {0})} (img, refused Damaged) (leaves (free_found geo i) img)
  unfolding free_found
  free-lost e = read-bad (λ x. damaged_out (find_inode geo x i)) (λ _. free_inode geo i) img (lost e)
