-- Laws of freeing: the cases of a walk and of a block, and that the layout stays. Assumes nothing.
use Rattle.std.specs.Prelude.{Some, None, Result, Ok, Err, is_ok, MatchResult}
use mathlib.Core.Path.{◌≡◌, refl, sym, ap, subst, ◌∙◌}
use mathlib.Core.Bool.{Bool, true, false}
use mathlib.Core.List.{List}
use Prim.Native.Nat.{ℕ, zero, suc, ◌+◌, ◌-◌, ◌/◌, ◌≤◌, ◌<◌}
use native.Mathlib.Omega.{arith}
use lib.Dec.{eqb}
use borrow.Author.Tests.{eq-eqb, ne_eqb}
use Rattle.refusal.specs.declared.Refusal.{Refusal}
use Rattle.refusal.specs.declared.Refusal.TheVariants.{Damaged}
use Rattle.store.specs.Act.{Out, got, refused, Act, pure, refuse, ◌>>=◌, choose, each, Left, leaves, cut_act, cut_leaves, Always}
use Rattle.store.proofs.AlwaysLaws.{always-choose, always-refuse}
use Rattle.store.proofs.CutLaws.{cut_act_lem}
use Rattle.store.proofs.ActLaws.{step-good, step-bad, leaves-pure, leaves-refuse, choose-yes, choose_no, each-end, each-good, each-bad}
use Rattle.volume.specs.declared.Geometry.{Geometry}
use Rattle.inode.specs.declared.Shape.{Shape}
use Rattle.inode.specs.Size.{held_at}
use Rattle.inode.specs.Shape.{sized}
use Rattle.frame.specs.Frame.{Frame}
use Rattle.mapping.specs.Mapping.{per_list, entry_at, list_ok}
use Rattle.balloc_take.specs.Take.{take_back, took_out}
use Rattle.balloc_take.proofs.MostLaws.{take-most}
use Rattle.books.specs.Work.{damaged_out, or_damaged, given}
use Rattle.books.proofs.KeepLaws.{Keeps, keeps-take, keeps-pure, keeps-refuse, keeps-bind, keeps-choose, keeps-each, keeps_given, keeps-work, keeps-read, work_left, whole-left}
use Rattle.ialloc_tree.specs.Tree.{on_list, at_entry, walk, returned_for, held_out, free_block, free_own, free_tree, free_list}

pred_suc : (l : ℕ) → suc l - 1 ≡ l
pred_suc l = omega arith

-- ---- a list, or 97

module _ {A : Type 0} (geo : Geometry) (a : ℕ) (img : List ℕ) (m : Act A) where
  pub list-no : list_ok geo img a ≡ false → ◌≡◌ {A = Left A} (img, refused Damaged) (leaves (on_list geo a m) img)
  unfolding on_list leaves
  list-no e = leaves-refuse Damaged img ∙ choose_no _ _ img e

  pub list-yes : list_ok geo img a ≡ true → leaves m img ≡ leaves (on_list geo a m) img
  unfolding on_list leaves
  list-yes e = choose-yes _ _ img e

-- ---- the cases of a walk

module _ {S : Type 0} (leaf : ℕ → ℕ → S → Act S) (own : ℕ → S → Act S) (geo : Geometry) (a place : ℕ) (h : S) (img : List ℕ) where
  pub walk_none : (l : ℕ) → a ≡ 0 → ◌≡◌ {A = Left S} (img, got h) (leaves (walk leaf own geo l a place h) img)
  unfolding walk
  walk_none zero e = leaves-pure h img ∙ choose-yes _ _ img (eq-eqb a 0 e)
  walk_none (suc l) e = leaves-pure h img ∙ choose-yes _ _ img (eq-eqb a 0 e)

  module _ (ne : a ≡ 0 → ⊥) where
    pub walk-leaf : (l : ℕ) → l ≡ 0 → leaves (leaf a place h) img ≡ leaves (walk leaf own geo l a place h) img
    unfolding walk
    walk-leaf zero z = choose_no _ _ img (ne_eqb a 0 ne)
    walk-leaf (suc l) z = let f : ⊥ = omega arith in absurd f

    pub walk-bad : (l : ℕ) → (l ≡ 0 → ⊥) → list_ok geo img a ≡ false → ◌≡◌ {A = Left S} (img, refused Damaged) (leaves (walk leaf own geo l a place h) img)
    unfolding walk
    walk-bad zero nz e = absurd (nz refl)
    walk-bad (suc l) nz e = list-no geo a img _ e ∙ choose_no _ _ img (ne_eqb a 0 ne)

    pub walk-list : (l : ℕ) → (l ≡ 0 → ⊥) → list_ok geo img a ≡ true
        → leaves (each (at_entry (walk leaf own geo (l - 1)) geo a) (per_list geo) 0 h >>= own a) img ≡ leaves (walk leaf own geo l a place h) img
    unfolding walk
    walk-list zero nz e = absurd (nz refl)
    walk-list (suc l) nz e = rw (pred_suc l) (list-yes geo a img _ e ∙ choose_no _ _ img (ne_eqb a 0 ne))

-- f at an entry, read before
entry-is : {S : Type 0} (f : ℕ → ℕ → S → Act S) (geo : Geometry) (a i : ℕ) (h : S) (img : List ℕ) → leaves (f (entry_at geo img a i) i h) img ≡ leaves (at_entry f geo a i h) img
unfolding at_entry leaves
entry-is f geo a i h img = refl

pub entry-left : {S : Type 0} (f : ℕ → ℕ → S → Act S) (geo : Geometry) (a i : ℕ) (h : S) (img : List ℕ) (e : ℕ) {s : List ℕ} {o : Out S}
    → e ≡ entry_at geo img a i → (s, o) ≡ leaves (f e i h) img → (s, o) ≡ leaves (at_entry f geo a i h) img
entry-left f geo a i h img e q r = r ∙ ap (λ (x : ℕ). leaves (f x i h) img) q ∙ entry-is f geo a i h img

-- ---- the addresses of a list, as a loop meets them: those before place i are done, left is carried, and what is to come leaves what the whole does

module _ {S : Type 0} (f : ℕ → ℕ → S → Act S) (geo : Geometry) (a per : ℕ) (ep : per ≡ per_list geo) (i : ℕ) (left : S) (img : List ℕ) (whole : Left S)
    (inv : leaves (each (at_entry f geo a) (per_list geo - i) i left) img ≡ whole) where
  module _ (l : i < per) (e : ℕ) (q : e ≡ entry_at geo img a i) {s : List ℕ} {o : Out S} (r : (s, o) ≡ leaves (f e i left) img) where
    pub list-good : {h : S} → o ≡ got h → leaves (each (at_entry f geo a) (per_list geo - (i + 1)) (i + 1) h) s ≡ whole
    list-good g = each-good (at_entry f geo a) (per_list geo) i img left (rw (← ep) l) (entry-left f geo a i left img e q r) g ∙ inv

    pub list-bad : {x : Refusal} → o ≡ refused x → (s, refused x) ≡ whole
    list-bad g = each-bad (at_entry f geo a) (per_list geo) i img left (rw (← ep) l) (entry-left f geo a i left img e q r) g ∙ inv

  pub list-end : per ≤ i → (img, got left) ≡ whole
  list-end l = each-end (at_entry f geo a) (per_list geo) i img left (rw (← ep) l) ∙ inv

-- ---- taking back, all its stores made

pub took_left : (geo : Geometry) (a size : ℕ) (img : List ℕ) → Frame geo img → {s : List ℕ} {o : Out (Unit {0})} {n : ℕ} → (s, o, n) ≡ cut_leaves 18446744073709551615 (take_back geo a size) img → (s, o) ≡ leaves (take_back geo a size) img
took_left geo a size img fr e = whole-left (take_back geo a size) img 18446744073709551615 (let m = take-most geo a size img fr in omega arith) e

-- what a taking back answered, from what is said of it with its refusal called damage
pub told-got : (r : Result ℕ Refusal) → true ≡ is_ok r → took_out r ≡ got (tt {0})
told-got (Ok n) v = refl
told-got (Err e) v = absurd (let z : ◌≡◌ {A = ℕ} 0 1 = cc in let y : ⊥ = omega arith in y)

pub told-refused : (r : Result ℕ Refusal) (d : Refusal) {Q : Refusal → Type 0} → false ≡ is_ok r → MatchResult r (λ n. ◌≡◌ {A = Result ℕ Refusal} (Err d) (Ok n)) Q → ((e : Refusal) → Q e → d ≡ Damaged)
    → (e : Refusal) × (took_out r ≡ refused e) × (d ≡ Damaged)
told-refused (Ok n) d v h q = absurd (let z : ◌≡◌ {A = ℕ} 0 1 = cc in let y : ⊥ = omega arith in y)
told-refused (Err e) d v h q = (e, refl, q e h)

-- ---- the cases of a block

module _ (geo : Geometry) (s : Shape) (a i held : ℕ) (img : List ℕ) where
  pub block-unsized : sized s ≡ false → ◌≡◌ {A = Left ℕ} (img, refused Damaged) (leaves (free_block geo s a i held) img)
  unfolding free_block returned_for
  block-unsized e = rw e (leaves-refuse Damaged img)

  pub block-past : sized s ≡ true → held_at geo s.size i ≡ None → ◌≡◌ {A = Left ℕ} (img, refused Damaged) (leaves (free_block geo s a i held) img)
  unfolding free_block returned_for
  block-past e q = rw (e, q) (leaves-refuse Damaged img)

  module _ (e : sized s ≡ true) (n : ℕ) (q : held_at geo s.size i ≡ Some n) {x : List ℕ} {o : Out (Unit {0})} (r : (x, o) ≡ leaves (take_back geo a n) img) where
    pub block-freed : o ≡ got (tt {0}) → ◌≡◌ {A = Left ℕ} (x, got (held - n / 512)) (leaves (free_block geo s a i held) img)
    unfolding free_block returned_for
    block-freed g = rw (e, q) (leaves-pure _ x ∙ step-good (or_damaged (take_back geo a n)) _ img (work_left (take_back geo a n) img r) (ap damaged_out g))

    pub block_refused : (f : Refusal) → o ≡ refused f → ◌≡◌ {A = Left ℕ} (x, refused Damaged) (leaves (free_block geo s a i held) img)
    unfolding free_block returned_for
    block_refused f g = rw (e, q) (step-bad (or_damaged (take_back geo a n)) _ img (work_left (take_back geo a n) img r) (ap damaged_out g))

module _ (geo : Geometry) (a held : ℕ) (img : List ℕ) {x : List ℕ} {o : Out (Unit {0})} (r : (x, o) ≡ leaves (take_back geo a geo.bsize) img) where
  pub own-freed : o ≡ got (tt {0}) → ◌≡◌ {A = Left ℕ} (x, got held) (leaves (free_own geo a held) img)
  unfolding free_own
  own-freed g = leaves-pure held x ∙ step-good (or_damaged (take_back geo a geo.bsize)) _ img (work_left (take_back geo a geo.bsize) img r) (ap damaged_out g)

  pub own-refused : (f : Refusal) → o ≡ refused f → ◌≡◌ {A = Left ℕ} (x, refused Damaged) (leaves (free_own geo a held) img)
  unfolding free_own
  own-refused f g = step-bad (or_damaged (take_back geo a geo.bsize)) _ img (work_left (take_back geo a geo.bsize) img r) (ap damaged_out g)

-- ---- the layout stays

module _ (geo : Geometry) where
  -- a list stays one, so that what is done with it may count on that
  pub always-list : {A : Type 0} {P : List ℕ → Type 0} (a : ℕ) {m : Act A} {img : List ℕ} → P img → (list_ok geo img a ≡ true → Always P m img) → Always P (on_list geo a m) img
  unfolding on_list
  always-list {A} {P} a {m} {img} p h = record { holds = λ k. rw (cut_list k) ((always-choose (list_ok geo img a) {x = m} {y = refuse Damaged} (λ e. h e) (λ e. always-refuse A Damaged p)).holds k) }
    where
      cut_list : (k : ℕ) → cut_act k (λ img. choose (list_ok geo img a) m (refuse Damaged) img) img ≡ cut_act k (choose (list_ok geo img a) m (refuse Damaged)) img
      cut_list k = cut_act_lem k (λ img. choose (list_ok geo img a) m (refuse Damaged) img) img ∙ sym (cut_act_lem k (choose (list_ok geo img a) m (refuse Damaged)) img)

  pub keeps-list : {A : Type 0} (a : ℕ) {m : Act A} → Keeps geo m → Keeps geo (on_list geo a m)
  unfolding on_list
  keeps-list {A} a p = keeps-read geo (λ x. choose (list_ok geo x a) _ (refuse Damaged)) (λ x. keeps-choose geo (list_ok geo x a) p (keeps-refuse geo A Damaged))

  pub keeps_entry : {S : Type 0} (f : ℕ → ℕ → S → Act S) → ((a i : ℕ) (h : S) → Keeps geo (f a i h)) → (a i : ℕ) (h : S) → Keeps geo (at_entry f geo a i h)
  unfolding at_entry
  keeps_entry f p a i h = keeps-read geo (λ x. f (entry_at geo x a i) i h) (λ x. p (entry_at geo x a i) i h)

  pub keeps-walk : {S : Type 0} (leaf : ℕ → ℕ → S → Act S) (own : ℕ → S → Act S) → ((a i : ℕ) (h : S) → Keeps geo (leaf a i h)) → ((a : ℕ) (h : S) → Keeps geo (own a h))
      → (l a place : ℕ) (h : S) → Keeps geo (walk leaf own geo l a place h)
  unfolding walk
  keeps-walk leaf own p q zero a place h = keeps-choose geo (eqb a 0) (keeps-pure geo h) (p a place h)
  keeps-walk leaf own p q (suc l) a place h =
      keeps-choose geo (eqb a 0) (keeps-pure geo h)
      (keeps-list a (keeps-bind geo (keeps-each geo (at_entry (walk leaf own geo l) geo a) (keeps_entry (walk leaf own geo l) (keeps-walk leaf own p q l) a) (per_list geo) 0 h) (q a)))

  pub keeps-block : (s : Shape) (a i held : ℕ) → Keeps geo (free_block geo s a i held)
  unfolding free_block
  keeps-block s a i held = keeps_given geo (returned_for geo s i) (λ n. keeps-bind geo (keeps-work geo (keeps-take geo a n)) (λ _. keeps-pure geo (held - n / 512)))

  pub keeps-own : (a held : ℕ) → Keeps geo (free_own geo a held)
  unfolding free_own
  keeps-own a held = keeps-bind geo (keeps-work geo (keeps-take geo a geo.bsize)) (λ _. keeps-pure geo held)

  pub keeps-tree : (s : Shape) (l a place held : ℕ) → Keeps geo (free_tree geo s l a place held)
  keeps-tree s l a place held = keeps-walk (free_block geo s) (free_own geo) (keeps-block s) keeps-own l a place held
