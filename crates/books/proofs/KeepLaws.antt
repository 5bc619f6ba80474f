-- Calls that keep the layout at every cut, part by part; and calls made in the work. Assumes nothing.
use mathlib.Core.Path.{◌≡◌, refl, sym, ap, subst, ◌∙◌}
use mathlib.Core.Bool.{Bool, true, false}
use mathlib.Core.List.{List, [], ◌∷◌}
use Prim.Native.Nat.{ℕ, zero, suc, ◌+◌, ◌-◌, ◌≤◌, ◌<◌}
use native.Mathlib.Omega.{arith}
use lib.ListN.{length}
use Rattle.refusal.specs.declared.Refusal.{Refusal}
use Rattle.refusal.specs.declared.Refusal.TheVariants.{Damaged}
use Rattle.store.specs.Store.{Store, apply, apply_all}
use Rattle.store.specs.Act.{Out, got, refused, Act, pure, refuse, reads, store, ◌>>=◌, choose, each, Left, leaves, made, cut_act, cut_leaves, Always}
use Rattle.store.proofs.ActLaws.{left-image, left_out}
use Rattle.store.proofs.AlwaysLaws.{always-start, always-all, always-bind, always-pure, always-refuse, always-store, always-read, always-choose, always-each, always_more}
use Rattle.store.proofs.CutLaws.{cut_act_lem, cut-whole}
use Rattle.volume.specs.declared.Geometry.{Geometry}
use Rattle.frame.specs.Frame.{Frame}
use Rattle.balloc_give.specs.Give.{give_block}
use Rattle.balloc_take.specs.Take.{take_back}
use Rattle.books.specs.Books.{Steady}
use Rattle.books.specs.Work.{damaged_out, or_damaged, given}
use Rattle.books.proofs.SteadyLaws.{steady-refl, steady-trans, give-steady, take-steady}

-- met at an image that is laid out as another, the call leaves one so at every cut
abbrev pub Keeps : {A : Type 0} → Geometry → Act A → Type 0
Keeps geo m = (start img : List ℕ) → Steady geo start img → Always (Steady geo start) m img

-- from the image that it meets is enough
pub keeps_from : {A : Type 0} (geo : Geometry) (m : Act A) → ((img : List ℕ) → Frame geo img → Always (Steady geo img) m img) → Keeps geo m
keeps_from geo m h start img s = always_more (λ x t. steady-trans geo s t) (h img s.frame)

module _ (geo : Geometry) where
  pub keeps-take : (a size : ℕ) → Keeps geo (take_back geo a size)
  keeps-take a size = keeps_from geo (take_back geo a size) (λ img fr. take-steady geo img fr a size)

  pub keeps-give : Keeps geo (give_block geo)
  keeps-give = keeps_from geo (give_block geo) (λ img fr. give-steady geo img fr)

  pub keeps-pure : {A : Type 0} (a : A) → Keeps geo (pure a)
  keeps-pure a start img s = always-pure a s

  pub keeps-refuse : (A : Type 0) (e : Refusal) → Keeps geo (refuse {A = A} e)
  keeps-refuse A e start img s = always-refuse A e s

  pub keeps-bind : {A B : Type 0} {m : Act A} {f : A → Act B} → Keeps geo m → ((a : A) → Keeps geo (f a)) → Keeps geo (m >>= f)
  keeps-bind {m = m} {f = f} p q start img s = always-bind (p start img s) (λ a e. q a start (apply_all (m img).stores img) (always-all (p start img s)))

  pub keeps-choose : {A : Type 0} (b : Bool) {x y : Act A} → Keeps geo x → Keeps geo y → Keeps geo (choose b x y)
  keeps-choose b p q start img s = always-choose b (λ e. p start img s) (λ e. q start img s)

  pub keeps-each : {S : Type 0} (f : ℕ → S → Act S) → ((i : ℕ) (h : S) → Keeps geo (f i h)) → (n i : ℕ) (h : S) → Keeps geo (each f n i h)
  unfolding each
  keeps-each f p zero i h = keeps-pure h
  keeps-each f p (suc n) i h = keeps-bind (p i h) (λ h'. keeps-each f p n (i + 1) h')

  pub keeps_given : {A B : Type 0} (o : Out A) {f : A → Act B} → ((a : A) → Keeps geo (f a)) → Keeps geo (given o f)
  keeps_given (got a) p = p a
  keeps_given {B = B} (refused e) p = keeps-refuse B e

  cut-damaged : {A : Type 0} (m : Act A) (k : ℕ) (img : List ℕ) → cut_act k (or_damaged m) img ≡ cut_act k m img
  unfolding or_damaged cut_act
  cut-damaged m k img = refl

  pub keeps-work : {A : Type 0} {m : Act A} → Keeps geo m → Keeps geo (or_damaged m)
  keeps-work {m = m} p start img s = record { holds = λ k. rw (cut-damaged m k img) ((p start img s).holds k) }

  -- a call that reads first
  pub keeps-read : {A : Type 0} (f : List ℕ → Act A) → ((x : List ℕ) → Keeps geo (f x)) → Keeps geo (λ img. f img img)
  keeps-read f p start img s = record { holds = λ k. rw (cut-read f k img) ((p img start img s).holds k) }
    where
      cut-read : {A : Type 0} (f : List ℕ → Act A) (k : ℕ) (img : List ℕ) → cut_act k (λ img. f img img) img ≡ cut_act k (f img) img
      cut-read f k img = cut_act_lem k (λ img. f img img) img ∙ sym (cut_act_lem k (f img) img)

  -- what code that makes the call leaves
  pub kept-left : {A : Type 0} {m : Act A} → Keeps geo m → {img s : List ℕ} {o : Out A} → Frame geo img → (s, o) ≡ leaves m img → Steady geo img s
  kept-left {m = m} p {img} {s} fr e = subst (Steady geo img) (sym (left-image m img e)) (always-all (p img img (steady-refl geo img fr)))

-- ---- a call cut past all its stores

pub whole-left : {A : Type 0} (m : Act A) (img : List ℕ) (k : ℕ) → made m img ≤ k → {s : List ℕ} {o : Out A} {n : ℕ} → (s, o, n) ≡ cut_leaves k m img → (s, o) ≡ leaves m img
unfolding leaves
whole-left {A} m img k l {s} {o} {n} e =
    let es : s ≡ cut_act k m img = ap (λ (t : List ℕ × Out A × ℕ). t.0) e in
    let eo : o ≡ (m img).out = ap (λ (t : List ℕ × Out A × ℕ). t.1) e in
    let ew : cut_act k m img ≡ (leaves m img).0 = cut-whole k m img l in
    λ i. ((es ∙ ew) i, eo i)

-- ---- what is left by a call in the work

pub work_left : {A : Type 0} (m : Act A) (img : List ℕ) {s : List ℕ} {o : Out A} → (s, o) ≡ leaves m img → (s, damaged_out o) ≡ leaves (or_damaged m) img
unfolding or_damaged leaves
work_left m img e = ap (λ (x : Left _). (x.0, damaged_out x.1)) e
