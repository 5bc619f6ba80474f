-- Calls that keep what is said of an image, at every cut, part by part. Assumes nothing.
use mathlib.Core.Path.{◌≡◌, refl}
use mathlib.Core.List.{List}
use Prim.Native.Nat.{ℕ, zero, suc, ◌+◌, ◌-◌, ◌/◌}
use lib.Dec.{eqb}
use Rattle.store.specs.Act.{Out, got, refused, Act, ◌>>=◌, each, cut_act, Always}
use Rattle.store.proofs.AlwaysLaws.{always-all, always-bind, always-pure, always-refuse, always-choose}
use Rattle.volume.specs.declared.Geometry.{Geometry}
use Rattle.inode.specs.declared.Shape.{Shape}
use Rattle.mapping.specs.Mapping.{per_list, entry_at}
use Rattle.balloc_take.specs.Take.{take_back}
use Rattle.books.specs.Work.{or_damaged, given}
use Rattle.ialloc_tree.specs.Tree.{at_entry, walk, returned_for, free_block, free_own, free_tree}
use Rattle.ialloc_tree.proofs.TreeLaws.{always-list}
use Rattle.ialloc_give.proofs.MarkLaws.{always_at}

module _ (P : List ℕ → Type 0) where
  -- met where P holds, the call leaves P holding at every cut
  abbrev pub Holds : {A : Type 0} → Act A → Type 0
  Holds m = (img : List ℕ) → P img → Always P m img

  pub holds-bind : {A B : Type 0} {m : Act A} {f : A → Act B} → Holds m → ((a : A) → Holds (f a)) → Holds (m >>= f)
  holds-bind p q img s = always-bind (p img s) (λ a e. q a _ (always-all (p img s)))

  pub holds-each : {S : Type 0} (f : ℕ → S → Act S) → ((i : ℕ) (h : S) → Holds (f i h)) → (n i : ℕ) (h : S) → Holds (each f n i h)
  unfolding each
  holds-each f p zero i h = λ img s. always-pure h s
  holds-each f p (suc n) i h = holds-bind (p i h) (λ h'. holds-each f p n (i + 1) h')

  pub holds-given : {A B : Type 0} (o : Out A) {f : A → Act B} → ((a : A) → Holds (f a)) → Holds (given o f)
  holds-given (got a) p = p a
  holds-given {B = B} (refused e) p = λ img s. always-refuse B e s

  cut-damaged : {A : Type 0} (m : Act A) (k : ℕ) (img : List ℕ) → cut_act k (or_damaged m) img ≡ cut_act k m img
  unfolding or_damaged cut_act
  cut-damaged m k img = refl

  pub holds-work : {A : Type 0} {m : Act A} → Holds m → Holds (or_damaged m)
  holds-work {m = m} p img s = record { holds = λ k. rw (cut-damaged m k img) ((p img s).holds k) }

  -- ---- a tree is freed, where a block may be taken back

  module _ (geo : Geometry) (p : (a n : ℕ) → Holds (take_back geo a n)) where
    pub holds-entry : {S : Type 0} (f : ℕ → ℕ → S → Act S) → ((a i : ℕ) (h : S) → Holds (f a i h)) → (a i : ℕ) (h : S) → Holds (at_entry f geo a i h)
    unfolding at_entry
    holds-entry f q a i h img s = always_at (λ x. f (entry_at geo x a i) i h) img (q (entry_at geo img a i) i h img s)

    holds-walk : {S : Type 0} (leaf : ℕ → ℕ → S → Act S) (own : ℕ → S → Act S) → ((a i : ℕ) (h : S) → Holds (leaf a i h)) → ((a : ℕ) (h : S) → Holds (own a h))
        → (l a place : ℕ) (h : S) → Holds (walk leaf own geo l a place h)
    unfolding walk
    holds-walk leaf own q r zero a place h = λ img s. always-choose (eqb a 0) (λ e. always-pure h s) (λ e. q a place h img s)
    holds-walk leaf own q r (suc l) a place h = λ img s.
        always-choose (eqb a 0) (λ e. always-pure h s)
        (λ e. always-list geo a s (λ ok. holds-bind (holds-each (at_entry (walk leaf own geo l) geo a) (holds-entry (walk leaf own geo l) (holds-walk leaf own q r l) a) (per_list geo) 0 h) (r a) img s))

    holds-block : (s : Shape) (a i held : ℕ) → Holds (free_block geo s a i held)
    unfolding free_block
    holds-block s a i held = holds-given (returned_for geo s i) (λ n. holds-bind (holds-work (p a n)) (λ _ img t. always-pure (held - n / 512) t))

    holds-own : (a held : ℕ) → Holds (free_own geo a held)
    unfolding free_own
    holds-own a held = holds-bind (holds-work (p a geo.bsize)) (λ _ img t. always-pure held t)

    pub holds-tree : (s : Shape) (l a place held : ℕ) → Holds (free_tree geo s l a place held)
    holds-tree s l a place held = holds-walk (free_block geo s) (free_own geo) (holds-block s) holds-own l a place held
