-- The laws of `specs/Act.antt`: what calls one after another leave, answer and store. Assumes nothing.
use mathlib.Core.Path.{◌≡◌, refl, sym, ap, ◌∙◌}
use mathlib.Core.Bool.{Bool, true, false}
use mathlib.Core.List.{List, [], ◌∷◌, ◌++◌}
use Prim.Native.Nat.{ℕ, suc, ◌+◌, ◌-◌, ◌<◌, ◌≤◌}
use native.Mathlib.Nat.{sub-zero}
use native.Mathlib.Omega.{arith}
use lib.ListN.{length, length-append}
use Rattle.field.specs.declared.Order.{Order}
use Rattle.field.specs.Field.{put_num}
use Rattle.refusal.specs.declared.Refusal.{Refusal}
use Rattle.store.specs.Store.{Store, number, apply, apply_all}
use Rattle.store.specs.Act.{Out, got, refused, Run, Act, pure, refuse, reads, store, seq, ◌>>=◌, choose, each, Left, leaves, next, made, Through}
use Rattle.store.proofs.StoreLaws.{apply_all_append, apply_all-none, apply-number}

-- ---- what calls leave

seq-leaves : {A B : Type 0} (ss : List Store) (o : Out A) (img : List ℕ) (f : A → Act B)
    → ◌≡◌ {A = Left B} (apply_all (seq ss o img f).stores img, (seq ss o img f).out) (next (apply_all ss img) o (λ a. leaves (f a)))
unfolding seq leaves
seq-leaves ss (got a) img f = rw (apply_all_append ss (f a (apply_all ss img)).stores img)
seq-leaves ss (refused e) img f = refl

-- two calls: the second goes on from what the first leaves
pub leaves_bind : {A B : Type 0} (m : Act A) (f : A → Act B) (img : List ℕ)
    → leaves (m >>= f) img ≡ next (leaves m img).0 (leaves m img).1 (λ a. leaves (f a))
unfolding leaves ◌>>=◌
leaves_bind m f img = seq-leaves (m img).stores (m img).out img f

-- after a call that answers, and after one that refuses
module _ {A B : Type 0} (m : Act A) (f : A → Act B) (img : List ℕ) {s : List ℕ} {o : Out A} (r : (s, o) ≡ leaves m img) where
  pub step-good : {a : A} → o ≡ got a → leaves (f a) s ≡ leaves (m >>= f) img
  step-good e = sym (leaves_bind m f img ∙ rw (← r, e))

  pub step-bad : {n : Refusal} → o ≡ refused n → ◌≡◌ {A = Left B} (s, refused n) (leaves (m >>= f) img)
  step-bad e = sym (leaves_bind m f img ∙ rw (← r, e))

pub step_store : {B : Type 0} (w : Store) (f : Unit {0} → Act B) (img : List ℕ) → leaves (f (tt {0})) (apply w img) ≡ leaves (store w >>= f) img
unfolding store leaves apply_all
step_store w f img = sym (leaves_bind (store w) f img)

pub step_read : {A B : Type 0} (g : List ℕ → A) (f : A → Act B) (img : List ℕ) → leaves (f (g img)) img ≡ leaves (reads g >>= f) img
unfolding reads leaves apply_all
step_read g f img = sym (leaves_bind (reads g) f img)

pub leaves-pure : {A : Type 0} (a : A) (img : List ℕ) → ◌≡◌ {A = Left A} (img, got a) (leaves (pure a) img)
unfolding pure leaves apply_all
leaves-pure a img = refl

pub leaves-refuse : {A : Type 0} (e : Refusal) (img : List ℕ) → ◌≡◌ {A = Left A} (img, refused e) (leaves (refuse e) img)
unfolding refuse leaves apply_all
leaves-refuse e img = refl

pub leaves-store : (w : Store) (img : List ℕ) → ◌≡◌ {A = Left (Unit {0})} (apply w img, got (tt {0})) (leaves (store w) img)
unfolding store leaves apply_all
leaves-store w img = refl

-- the same of a number put in its place
module _ (o : Order) (n at v : ℕ) (img : List ℕ) where
  pub step-number : {B : Type 0} (f : Unit {0} → Act B) → leaves (f (tt {0})) (put_num o n at v img) ≡ leaves (store (number o n at v ∷ []) >>= f) img
  step-number f = rw (apply-number o n at v img) at (step_store (number o n at v ∷ []) f img)

  pub leaves-number : ◌≡◌ {A = Left (Unit {0})} (put_num o n at v img, got (tt {0})) (leaves (store (number o n at v ∷ [])) img)
  leaves-number = rw (apply-number o n at v img) at (leaves-store (number o n at v ∷ []) img)

pub choose-yes : {A : Type 0} {b : Bool} (x y : Act A) (img : List ℕ) → b ≡ true → leaves x img ≡ leaves (choose b x y) img
unfolding choose
choose-yes x y img e = rw e

pub choose_no : {A : Type 0} {b : Bool} (x y : Act A) (img : List ℕ) → b ≡ false → leaves y img ≡ leaves (choose b x y) img
unfolding choose
choose_no x y img e = rw e

-- 01: "Up to there nothing is stored": a refusal that is judged first leaves the image
pub refuse_when : {A : Type 0} {b : Bool} (e : Refusal) (y : Act A) (img : List ℕ) → b ≡ true → ◌≡◌ {A = Left A} (img, refused e) (leaves (choose b (refuse e) y) img)
refuse_when e y img t = leaves-refuse e img ∙ choose-yes (refuse e) y img t

pub refuse-first : {A B : Type 0} (m : Act A) (f : A → Act B) (img : List ℕ) {e : Refusal} → (m img).stores ≡ [] → (m img).out ≡ refused e
    → ◌≡◌ {A = Left B} (img, refused e) (leaves (m >>= f) img)
unfolding leaves
refuse-first m f img n r = step-bad m f img {s = img} {o = (m img).out} (rw n (rw (apply_all-none img))) r

-- from the code's equation: the answer, and the image
module _ {A : Type 0} (m : Act A) (img : List ℕ) {s : List ℕ} {o : Out A} (r : (s, o) ≡ leaves m img) where
  pub left_out : (m img).out ≡ o
  unfolding leaves
  left_out = sym (ap (λ (x : Left A). x.1) r)

  pub left-image : s ≡ apply_all (m img).stores img
  unfolding leaves
  left-image = ap (λ (x : Left A). x.0) r

-- ---- what a good answer says

pub through : {A B : Type 0} (m : Act A) (f : A → Act B) (img : List ℕ) {b : B} → ((m >>= f) img).out ≡ got b → Through m f img b
unfolding ◌>>=◌ seq
through {A} {B} m f img {b} e = go (m img).out refl e
  where
    go : (o : Out A) → (m img).out ≡ o → (seq (m img).stores o img f).out ≡ got b → Through m f img b
    go (got a) q e = record { mid = a; first = q; second = e }
    go (refused n) q e = absurd (let z : ◌≡◌ {A = ℕ} 0 1 = cc in let y : ⊥ = omega arith in y)

pub choose-out : {A : Type 0} (P : Type 0) (b : Bool) (x y : Act A) (img : List ℕ) {a : A}
    → (b ≡ true → (x img).out ≡ got a → P) → (b ≡ false → (y img).out ≡ got a → P) → (choose b x y img).out ≡ got a → P
unfolding choose
choose-out P true x y img p q e = p refl e
choose-out P false x y img p q e = q refl e

pub read-out : {A B : Type 0} (g : List ℕ → A) (f : A → Act B) (img : List ℕ) {b : B} → ((reads g >>= f) img).out ≡ got b → (f (g img) img).out ≡ got b
unfolding ◌>>=◌ reads seq apply_all
read-out g f img e = e

pub pure-out : {A : Type 0} (a : A) (img : List ℕ) {b : A} → (pure a img).out ≡ got b → a ≡ b
unfolding pure
pure-out a img e = cc

pub refuse-out : {A : Type 0} (n : Refusal) (img : List ℕ) {b : A} → (refuse n img).out ≡ got b → ⊥
unfolding refuse
refuse-out n img e = let z : ◌≡◌ {A = ℕ} 0 1 = cc in omega arith

-- ---- a loop

module _ {S : Type 0} (f : ℕ → S → Act S) (n i : ℕ) (img : List ℕ) (h : S) where
  pub each_start : leaves (each f (n - 0) 0 h) img ≡ leaves (each f n 0 h) img
  each_start = rw (sub-zero n)

  pub each-end : n ≤ i → ◌≡◌ {A = Left S} (img, got h) (leaves (each f (n - i) i h) img)
  unfolding each
  each-end l = let z : n - i ≡ 0 = omega arith in rw z (leaves-pure h img)

  module _ {s : List ℕ} {o : Out S} (l : i < n) (r : (s, o) ≡ leaves (f i h) img) where
    pub each-good : {h' : S} → o ≡ got h' → leaves (each f (n - (i + 1)) (i + 1) h') s ≡ leaves (each f (n - i) i h) img
    unfolding each
    each-good e = let z : n - i ≡ suc (n - (i + 1)) = omega arith in rw z (step-good (f i h) (each f (n - (i + 1)) (i + 1)) img r e)

    pub each-bad : {e : Refusal} → o ≡ refused e → ◌≡◌ {A = Left S} (s, refused e) (leaves (each f (n - i) i h) img)
    unfolding each
    each-bad q = let z : n - i ≡ suc (n - (i + 1)) = omega arith in rw z (step-bad (f i h) (each f (n - (i + 1)) (i + 1)) img r q)

-- ---- the stores and the answer of two calls

seq_good : {A B : Type 0} (ss : List Store) {o : Out A} (img : List ℕ) (f : A → Act B) {a : A} → o ≡ got a
    → seq ss o img f ≡ record { stores = ss ++ (f a (apply_all ss img)).stores; out = (f a (apply_all ss img)).out }
unfolding seq
seq_good ss img f e = rw e

seq-bad : {A B : Type 0} (ss : List Store) {o : Out A} (img : List ℕ) (f : A → Act B) {n : Refusal} → o ≡ refused n
    → seq ss o img f ≡ record { stores = ss; out = refused n }
unfolding seq
seq-bad ss img f e = rw e

module _ {A B : Type 0} (m : Act A) (f : A → Act B) (img : List ℕ) where
  module _ {a : A} (e : (m img).out ≡ got a) where
    pub stores-good : ((m >>= f) img).stores ≡ (m img).stores ++ (f a (apply_all (m img).stores img)).stores
    unfolding ◌>>=◌
    stores-good = ap (λ (r : Run B). r.stores) (seq_good (m img).stores img f e)

    pub out-good : ((m >>= f) img).out ≡ (f a (apply_all (m img).stores img)).out
    unfolding ◌>>=◌
    out-good = ap (λ (r : Run B). r.out) (seq_good (m img).stores img f e)

    pub made-good : made (m >>= f) img ≡ made m img + made (f a) (apply_all (m img).stores img)
    made-good = ap length stores-good ∙ length-append (m img).stores (f a (apply_all (m img).stores img)).stores

  module _ {n : Refusal} (e : (m img).out ≡ refused n) where
    pub stores-bad : ((m >>= f) img).stores ≡ (m img).stores
    unfolding ◌>>=◌
    stores-bad = ap (λ (r : Run B). r.stores) (seq-bad (m img).stores img f e)

    pub out-bad : ((m >>= f) img).out ≡ refused n
    unfolding ◌>>=◌
    out-bad = ap (λ (r : Run B). r.out) (seq-bad (m img).stores img f e)

pub stores-pure : {A : Type 0} (a : A) (img : List ℕ) → (pure a img).stores ≡ []
unfolding pure
stores-pure a img = refl

pub stores-refuse : (A : Type 0) (e : Refusal) (img : List ℕ) → (refuse {A = A} e img).stores ≡ []
unfolding refuse
stores-refuse A e img = refl

pub stores-reads : {A : Type 0} (g : List ℕ → A) (img : List ℕ) → (reads g img).stores ≡ []
unfolding reads
stores-reads g img = refl

pub stores-store : (s : Store) (img : List ℕ) → (store s img).stores ≡ s ∷ []
unfolding store
stores-store s img = refl

pub stores-read : {A B : Type 0} (g : List ℕ → A) (f : A → Act B) (img : List ℕ) → ((reads g >>= f) img).stores ≡ (f (g img) img).stores
unfolding ◌>>=◌ reads seq apply_all
stores-read g f img = refl

pub stores_then : {B : Type 0} (s : Store) (f : Unit {0} → Act B) (img : List ℕ) → ((store s >>= f) img).stores ≡ s ∷ (f (tt {0}) (apply s img)).stores
unfolding ◌>>=◌ store seq apply_all
stores_then s f img = refl
