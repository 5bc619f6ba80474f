-- What holds at every cut of a call, from what holds at every cut of its parts. Assumes nothing.
use mathlib.Core.Path.{◌≡◌, refl}
use mathlib.Core.Bool.{Bool, true, false}
use mathlib.Core.List.{List, [], ◌∷◌}
use Prim.Native.Nat.{ℕ, zero, suc, ◌+◌, ◌-◌, ◌<◌, ◌≤◌}
use native.Mathlib.Omega.{arith}
use native.Mathlib.Decide.{dec_le}
use lib.ListN.{take}
use Rattle.refusal.specs.declared.Refusal.{Refusal}
use Rattle.store.specs.Store.{Store, apply, apply_all}
use Rattle.store.specs.Where.{Only}
use Rattle.store.specs.Act.{Out, got, refused, Act, pure, refuse, reads, store, ◌>>=◌, choose, each, made, cut_act, Always}
use Rattle.store.proofs.StoreLaws.{apply_all-one}
use Rattle.store.proofs.CutLaws.{cut-is, cut-none, cut_act_lem, cut-all, cut_short, cut-long, cut-refused, cut_start}
use Rattle.store.proofs.ActLaws.{stores-pure, stores-refuse, stores-store, stores-read}
use Rattle.store.proofs.OnlyLaws.{only-take}

module _ {P : List ℕ → Type 0} where
  -- before the first store, and once all are made
  pub always-start : {A : Type 0} {m : Act A} {img : List ℕ} → Always P m img → P img
  always-start {m = m} {img = img} p = rw (cut_start m img) at (p.holds 0)

  pub always-all : {A : Type 0} {m : Act A} {img : List ℕ} → Always P m img → P (apply_all (m img).stores img)
  always-all {m = m} {img = img} p =
      rw (cut_act_lem (made m img) m img, cut-all (made m img) (m img).stores img (omega arith)) at (p.holds (made m img))

  -- two calls: every cut is one of the first, or one of the second on what the first leaves
  pub always-bind : {A B : Type 0} {m : Act A} {f : A → Act B} {img : List ℕ} → Always P m img
      → ((a : A) → (m img).out ≡ got a → Always P (f a) (apply_all (m img).stores img)) → Always P (m >>= f) img
  always-bind {A} {B} {m} {f} {img} p q = record { holds = λ k. go k (m img).out refl (dec_le k (made m img)) }
    where
      go : (k : ℕ) (o : Out A) → (m img).out ≡ o → Dec (k ≤ made m img) → P (cut_act k (m >>= f) img)
      go k (refused n) e d = rw (cut-refused k m f img e) (p.holds k)
      go k (got a) e (yes h) = rw (cut_short k m f img h) (p.holds k)
      go k (got a) e (no h) = rw (cut-long k m f img e (omega arith)) ((q a e).holds (k - made m img))

  pub always-pure : {A : Type 0} (a : A) {img : List ℕ} → P img → Always P (pure a) img
  always-pure a {img} p = record { holds = λ k. rw (cut_act_lem k (pure a) img, stores-pure a img, cut-none k img) p }

  pub always-refuse : (A : Type 0) (e : Refusal) {img : List ℕ} → P img → Always P (refuse {A = A} e) img
  always-refuse A e {img} p = record { holds = λ k. rw (cut_act_lem k (refuse {A = A} e) img, stores-refuse A e img, cut-none k img) p }

  pub always-store : (s : Store) {img : List ℕ} → P img → P (apply s img) → Always P (store s) img
  always-store s {img} p q = record { holds = go }
    where
      go : (k : ℕ) → P (cut_act k (store s) img)
      go zero = rw (cut_start (store s) img) p
      go (suc k) = rw (cut_act_lem (suc k) (store s) img, stores-store s img, cut-all (suc k) (s ∷ []) img (omega arith), apply_all-one s img) q

  pub always-store-bind : {B : Type 0} (s : Store) (f : Unit {0} → Act B) {img : List ℕ} → P img → Always P (f (tt {0})) (apply s img) → Always P (store s >>= f) img
  always-store-bind s f {img} p q =
      always-bind (always-store s p (always-start q)) (λ _ _. rw (stores-store s img, apply_all-one s img) q)

  pub always-read : {A B : Type 0} (g : List ℕ → A) (f : A → Act B) {img : List ℕ} → Always P (f (g img)) img → Always P (reads g >>= f) img
  always-read g f {img} p =
      record { holds = λ k. rw (cut_act_lem k (reads g >>= f) img, stores-read g f img, ← (cut_act_lem k (f (g img)) img)) (p.holds k) }

  pub always-choose : {A : Type 0} (b : Bool) {x y : Act A} {img : List ℕ} → (b ≡ true → Always P x img) → (b ≡ false → Always P y img) → Always P (choose b x y) img
  unfolding choose
  always-choose true p q = p refl
  always-choose false p q = q refl

  -- a loop whose turns each keep P at every cut
  pub always-each : {S : Type 0} (n : ℕ) (f : ℕ → S → Act S) → ((img : List ℕ) (i : ℕ) (h : S) → P img → i < n → Always P (f i h) img)
      → (m i : ℕ) (h : S) {img : List ℕ} → P img → i + m ≤ n → Always P (each f m i h) img
  unfolding each
  always-each n f t zero i h p l = always-pure h p
  always-each n f t (suc m) i h {img} p l =
      let a = t img i h p (omega arith) in
      always-bind a (λ h' _. always-each n f t m (i + 1) h' (always-all a) (omega arith))

  -- what any stores in Q keep
  pub always-only : {A : Type 0} {Q : ℕ → Type 0} (m : Act A) (img : List ℕ) → ((ss : List Store) → Only Q ss → P (apply_all ss img)) → Only Q (m img).stores → Always P m img
  always-only m img h o = record { holds = λ k. rw (cut_act_lem k m img, cut-is k (m img).stores img) (h (take k (m img).stores) (only-take k o)) }

-- what follows from P at every cut
pub always_more : {A : Type 0} {P R : List ℕ → Type 0} {m : Act A} {img : List ℕ} → ((x : List ℕ) → P x → R x) → Always P m img → Always R m img
always_more h p = record { holds = λ k. h _ (p.holds k) }
