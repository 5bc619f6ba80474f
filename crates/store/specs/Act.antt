-- A call as the stores it makes and its answer, given the image it meets; calls one after another. Assumes nothing: these are definitions.
use Rattle.std.specs.Prelude.{◌≡◌, Bool, true, false, List, [], ◌∷◌, ◌++◌, ℕ, zero, suc, ◌+◌, min, length}
use Rattle.refusal.specs.declared.Refusal.{Refusal}
use Rattle.store.specs.Store.{Store, apply_all, cut}

-- an answer, or a refusal
pub data Out (A : Type 0) : Type 0 where
  got : A → Out A
  refused : Refusal → Out A

-- what a call does: its stores, in order, and what it answers
pub record Run (A : Type 0) : Type 0 where
  pub stores : List Store
  pub out : Out A

-- a call, given the image that it meets
abbrev pub Act : Type 0 → Type 0
Act A = List ℕ → Run A

-- ---- the ways to make one

-- an answer alone
unfoldable pub pure : {A : Type 0} → A → Act A
pure a img = record { stores = []; out = got a }

-- 01: "Up to there nothing is stored"
unfoldable pub refuse : {A : Type 0} → Refusal → Act A
refuse e img = record { stores = []; out = refused e }

-- what the image says
unfoldable pub reads : {A : Type 0} → (List ℕ → A) → Act A
reads g img = record { stores = []; out = got (g img) }

-- one store
unfoldable pub store : Store → Act (Unit {0})
store s img = record { stores = s ∷ []; out = got (tt {0}) }

-- the second meets the image after the first's stores; 01: a refusal leaves "exactly the stores that the definition makes before" it
unfoldable pub seq : {A B : Type 0} → List Store → Out A → List ℕ → (A → Act B) → Run B
seq ss (got a) img f = record { stores = ss ++ (f a (apply_all ss img)).stores; out = (f a (apply_all ss img)).out }
seq ss (refused e) img f = record { stores = ss; out = refused e }

infixl 20 ◌>>=◌
-- `do` reads as these two
unfoldable pub ◌>>=◌ : {A B : Type 0} → Act A → (A → Act B) → Act B
◌>>=◌ m f = λ img. seq (m img).stores (m img).out img f

infixl 20 ◌>>◌
abbrev pub ◌>>◌ : {A B : Type 0} → Act A → Act B → Act B
◌>>◌ m n = m >>= (λ _. n)

-- one of two calls, by a test
unfoldable pub choose : {A : Type 0} → Bool → Act A → Act A → Act A
choose true x y = x
choose false x y = y

-- a loop that carries a value: f at i, i + 1, .., n times, up to the first refusal
unfoldable pub each : {S : Type 0} → (ℕ → S → Act S) → ℕ → ℕ → S → Act S
each f zero i h = pure h
each f (suc n) i h = f i h >>= each f n (i + 1)

-- ---- what a call leaves

abbrev pub Left : Type 0 → Type 0
Left A = List ℕ × Out A

-- the image after all its stores, and the answer: what code promises
unfoldable pub leaves : {A : Type 0} → Act A → List ℕ → Left A
leaves m img = (apply_all (m img).stores img, (m img).out)

-- a call on what one before it left
abbrev pub next : {A B : Type 0} → List ℕ → Out A → (A → List ℕ → Left B) → Left B
next img (got a) f = f a img
next img (refused e) f = (img, refused e)

-- 01: "the number of stores made is part of the answer"
abbrev pub made : {A : Type 0} → Act A → List ℕ → ℕ
made m img = length (m img).stores

-- 01: "each of these calls made to stop after a given number of stores"
unfoldable pub cut_act : {A : Type 0} → ℕ → Act A → List ℕ → List ℕ
cut_act k m img = cut k (m img).stores img

-- what is then left: the image, the answer, and the number of stores made
abbrev pub cut_leaves : {A : Type 0} → ℕ → Act A → List ℕ → List ℕ × Out A × ℕ
cut_leaves k m img = (cut_act k m img, (m img).out, min k (made m img))

-- P holds at every cut, so also once the call is finished
pub record Always {A : Type 0} (P : List ℕ → Type 0) (m : Act A) (img : List ℕ) : Type 0 where
  pub holds : (k : ℕ) → P (cut_act k m img)

-- what a good answer of two calls says of each
pub record Through {A B : Type 0} (m : Act A) (f : A → Act B) (img : List ℕ) (b : B) : Type 0 where
  pub mid : A
  pub first : (m img).out ≡ got mid
  pub second : (f mid (apply_all (m img).stores img)).out ≡ got b
