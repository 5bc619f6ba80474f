-- Stores that write bytes of Q alone keep all others; where a call stores, from where its parts do. Assumes nothing.
use mathlib.Core.Path.{◌≡◌, refl, ◌∙◌}
use mathlib.Core.Bool.{Bool, true, false}
use mathlib.Core.List.{List, [], ◌∷◌, ◌++◌}
use mathlib.Core.Logic.{inl, inr, ⊎_elim}
use Prim.Native.Nat.{ℕ, zero, suc, ◌+◌, ◌<◌, ◌≤◌}
use native.Mathlib.Omega.{arith}
use native.Mathlib.Decide.{dec_lt}
use lib.ListN.{length, take}
use Rattle.field.specs.declared.Order.{Order}
use Rattle.field.specs.Field.{part, num, Kept}
use Rattle.refusal.specs.declared.Refusal.{Refusal}
use Rattle.store.specs.Store.{Write, Store, number, apply, apply_all, cut}
use Rattle.store.specs.Where.{none, more, Apart, OutsideAll, WriteIn, StoreIn, Only, Range, KeptBut}
use Rattle.store.specs.Act.{Out, got, refused, Act, pure, refuse, reads, store, ◌>>=◌, choose, each}
use Rattle.store.proofs.StoreLaws.{apply_all-one, length-apply_all, number_at, number-length}
use Rattle.store.proofs.WhereLaws.{all_append, all-take, all-more, apply_all_outside, part-agree, num-agree}
use Rattle.store.proofs.ActLaws.{stores-pure, stores-refuse, stores-store, stores-read, stores-good, stores-bad}
use Rattle.store.proofs.CutLaws.{cut-is}

-- ---- `KeptBut`: all but the bytes of Q is as it was

pub kept-but-refl : (Q : ℕ → Type 0) (xs : List ℕ) → KeptBut Q xs xs
kept-but-refl Q xs = record { long = refl; byte = λ j n. refl }

pub kept-but_trans : {Q : ℕ → Type 0} {xs ys zs : List ℕ} → KeptBut Q xs ys → KeptBut Q ys zs → KeptBut Q xs zs
kept-but_trans p q = record { long = q.long ∙ p.long; byte = λ j n. q.byte j n ∙ p.byte j n }

pub kept-but-more : {Q R : ℕ → Type 0} {xs ys : List ℕ} → ((j : ℕ) → Q j → R j) → KeptBut Q xs ys → KeptBut R xs ys
kept-but-more h p = record { long = p.long; byte = λ j n. p.byte j (λ q. n (h j q)) }

module _ {Q : ℕ → Type 0} {xs ys : List ℕ} (p : KeptBut Q xs ys) (n at : ℕ) (a : (j : ℕ) → Range at n j → Q j → ⊥) where
  pub kept-but-part : part n at ys ≡ part n at xs
  kept-but-part = part-agree n at xs ys p.long (λ j r. p.byte j (a j r))

  pub kept-but-num : (o : Order) → num o n at ys ≡ num o n at xs
  kept-but-num o = num-agree n at xs ys p.long (λ j r. p.byte j (a j r)) o

pub kept_range : {a n : ℕ} {xs ys : List ℕ} → KeptBut (Range a n) xs ys → Kept a n xs ys
kept_range p = record { long = p.long; byte = λ k o. p.byte k (λ r. ⊎_elim (λ b. omega arith) (λ b. omega arith) o) }

-- ---- stores that write in Q alone

pub number_in : {Q : ℕ → Type 0} (o : Order) (n at v : ℕ) → ((j : ℕ) → Range at n j → Q j) → WriteIn Q (number o n at v)
number_in o n at v h j a b = h j (omega (arith, number_at o n at v), omega (arith, number_at o n at v, number-length o n at v))

apart : {Q : ℕ → Type 0} {j : ℕ} → (Q j → ⊥) → (w : Write) → WriteIn Q w → Apart j w
apart {j = j} n w p = go (dec_lt j w.at) (dec_lt j (w.at + length w.bytes))
  where
    go : Dec (j < w.at) → Dec (j < w.at + length w.bytes) → Apart j w
    go (yes a) d = inl a
    go (no a) (no b) = inr (omega arith)
    go (no a) (yes b) = absurd (n (p j (omega arith) b))

module _ {Q : ℕ → Type 0} where
  pub only_none : Only Q []
  only_none = record { every = none }

  pub only_stores : {s : Store} {ss : List Store} → StoreIn Q s → Only Q ss → Only Q (s ∷ ss)
  only_stores p q = record { every = more p q.every }

  pub only-append : {ss ts : List Store} → Only Q ss → Only Q ts → Only Q (ss ++ ts)
  only-append p q = record { every = all_append p.every q.every }

  pub only-take : (k : ℕ) {ss : List Store} → Only Q ss → Only Q (take k ss)
  only-take k p = record { every = all-take k p.every }

  pub only-more : {R : ℕ → Type 0} {ss : List Store} → ((j : ℕ) → Q j → R j) → Only Q ss → Only R ss
  only-more h p = record { every = all-more (λ s. all-more (λ w i j a b. h j (i j a b))) p.every }

  pub only-outside : {ss : List Store} {j : ℕ} → Only Q ss → (Q j → ⊥) → OutsideAll j ss
  only-outside p n = all-more (λ s. all-more (apart n)) p.every

  -- the finished run, and every cut, keep what lies outside Q
  pub only-all : {ss : List Store} → Only Q ss → (img : List ℕ) → KeptBut Q img (apply_all ss img)
  only-all {ss} p img = record { long = length-apply_all ss img; byte = λ j n. apply_all_outside (only-outside p n) img }

  pub only-cut : {ss : List Store} → Only Q ss → (k : ℕ) (img : List ℕ) → KeptBut Q img (cut k ss img)
  only-cut {ss} p k img = rw (cut-is k ss img) (only-all (only-take k p) img)

  pub kept-but-store : {s : Store} → StoreIn Q s → (img : List ℕ) → KeptBut Q img (apply s img)
  kept-but-store {s} p img = rw apply_all-one at (only-all (only_stores p only_none) img)

-- `Kept` of one store, and of a number
pub kept-store : {a n : ℕ} {s : Store} → StoreIn (Range a n) s → (img : List ℕ) → Kept a n img (apply s img)
kept-store p img = kept_range (kept-but-store p img)

pub kept-number : (o : Order) (n at v : ℕ) (img : List ℕ) → Kept at n img (apply (number o n at v ∷ []) img)
kept-number o n at v img = kept-store (more (number_in o n at v (λ j r. r)) none) img

-- ---- where a call stores

module _ {Q : ℕ → Type 0} where
  pub only-pure : {A : Type 0} (a : A) (img : List ℕ) → Only Q (pure a img).stores
  only-pure a img = rw (stores-pure a img) only_none

  pub only-refuse : (A : Type 0) (e : Refusal) (img : List ℕ) → Only Q (refuse {A = A} e img).stores
  only-refuse A e img = rw (stores-refuse A e img) only_none

  pub only_store : {s : Store} → StoreIn Q s → (img : List ℕ) → Only Q (store s img).stores
  only_store {s} p img = rw (stores-store s img) (only_stores p only_none)

  pub only_one : (w : Write) → WriteIn Q w → (img : List ℕ) → Only Q (store (w ∷ []) img).stores
  only_one w p img = only_store (more p none) img

  pub only-number : (o : Order) (n at v : ℕ) → ((j : ℕ) → Range at n j → Q j) → (img : List ℕ) → Only Q (store (number o n at v ∷ []) img).stores
  only-number o n at v h img = only_one (number o n at v) (number_in o n at v h) img

  pub only-bind : {A B : Type 0} (m : Act A) (f : A → Act B) (img : List ℕ)
      → Only Q (m img).stores → ((a : A) → (m img).out ≡ got a → Only Q (f a (apply_all (m img).stores img)).stores) → Only Q ((m >>= f) img).stores
  only-bind {A} m f img p q = go (m img).out refl
    where
      go : (o : Out A) → (m img).out ≡ o → Only Q ((m >>= f) img).stores
      go (got a) e = rw (stores-good m f img e) (only-append p (q a e))
      go (refused n) e = rw (stores-bad m f img e) p

  pub only-read : {A B : Type 0} (g : List ℕ → A) (f : A → Act B) (img : List ℕ) → Only Q (f (g img) img).stores → Only Q ((reads g >>= f) img).stores
  only-read g f img p = rw (stores-read g f img) p

  pub only-choose : {A : Type 0} (b : Bool) (x y : Act A) (img : List ℕ) → (b ≡ true → Only Q (x img).stores) → (b ≡ false → Only Q (y img).stores) → Only Q (choose b x y img).stores
  unfolding choose
  only-choose true x y img p q = p refl
  only-choose false x y img p q = q refl

-- where a loop stores, from where each turn does, with what each turn keeps
pub each-only : {S : Type 0} {Q : ℕ → Type 0} (P : List ℕ → Type 0) (n : ℕ) (f : ℕ → S → Act S)
    → ((img : List ℕ) (ss : List Store) → P img → Only Q ss → P (apply_all ss img))
    → ((img : List ℕ) (i : ℕ) (h : S) → P img → i < n → Only Q (f i h img).stores)
    → (m i : ℕ) (h : S) (img : List ℕ) → P img → i + m ≤ n → Only Q (each f m i h img).stores
unfolding each
each-only P n f k t zero i h img p l = only-pure h img
each-only P n f k t (suc m) i h img p l =
    let o = t img i h p (omega arith) in
    only-bind (f i h) (each f m (i + 1)) img o
    (λ h' _. each-only P n f k t m (i + 1) h' (apply_all (f i h img).stores img) (k img (f i h img).stores p o) (omega arith))
