-- Where each store of a call lies, part by part, with what the images keep all along. Assumes nothing.
use mathlib.Core.Path.{◌≡◌, refl, sym, ap, subst, ◌∙◌}
use mathlib.Core.Bool.{Bool, true, false}
use mathlib.Core.List.{List, ◌++◌}
use Prim.Native.Nat.{ℕ, ◌+◌, ◌-◌, ◌≤◌}
use native.Mathlib.Omega.{arith}
use native.Mathlib.Decide.{dec_le}
use Rattle.refusal.specs.declared.Refusal.{Refusal}
use Rattle.refusal.specs.declared.Refusal.TheVariants.{Damaged}
use Rattle.store.specs.Store.{Store, apply, apply_all}
use Rattle.store.specs.Where.{All, none, more, StoreIn}
use Rattle.store.specs.Act.{Out, got, refused, Act, pure, refuse, reads, store, ◌>>=◌, choose, made, cut_act, Always}
use Rattle.store.proofs.ActLaws.{stores-pure, stores-refuse, stores-store, stores-reads, stores-good, stores-bad}
use Rattle.store.proofs.StoreLaws.{apply_all-none, apply_all-one}
use Rattle.store.proofs.CutLaws.{cut_act_lem, cut-none, cut-all, cut_short, cut-long}
use Rattle.store.proofs.AlwaysLaws.{always-start, always-all, always-bind, always-pure, always-refuse, always-store}
use Rattle.volume.specs.declared.Geometry.{Geometry}
use Rattle.mapping.specs.Mapping.{list_ok}
use Rattle.books.specs.Work.{given}
use Rattle.ialloc_tree.specs.Tree.{on_list}
use Rattle.inode_setblock.proofs.SetKeeps.{always_reads}
use Rattle.touched_write.specs.Stores.{Goes, done, next}

-- ---- of two calls, what holds at every cut holds at those of each

pub always_before : {A B : Type 0} {P : List ℕ → Type 0} (m : Act A) (f : A → Act B) {img : List ℕ} → Always P (m >>= f) img → Always P m img
always_before {P = P} m f {img} p = record { holds = λ k. go k (dec_le k (made m img)) }
  where
    go : (k : ℕ) → Dec (k ≤ made m img) → P (cut_act k m img)
    go k (yes l) = rw (cut_short k m f img l) at (p.holds k)
    go k (no l) =
        let q = rw (cut_short (made m img) m f img (omega arith)) at (p.holds (made m img)) in
        subst P (cut_act_lem (made m img) m img ∙ cut-all (made m img) (m img).stores img (omega arith) ∙ sym (cut_act_lem k m img ∙ cut-all k (m img).stores img (omega arith))) q

pub always_after : {A B : Type 0} {P : List ℕ → Type 0} (m : Act A) (f : A → Act B) {img : List ℕ} {a : A} → (m img).out ≡ got a → Always P (m >>= f) img → Always P (f a) (apply_all (m img).stores img)
always_after {P = P} m f {img} {a} e p =
    record {
      holds = λ k.
          let same : made m img + k - made m img ≡ k = omega arith in
          subst P (cut-long (made m img + k) m f img e (omega arith) ∙ ap (λ (n : ℕ). cut_act n (f a) (apply_all (m img).stores img)) same) (p.holds (made m img + k));
    }

pub always_read-before : {A : Type 0} {P : List ℕ → Type 0} (f : List ℕ → Act A) {img : List ℕ} → Always P (λ x. f x x) img → Always P (f img) img
always_read-before {A} {P} f {img} p = record { holds = λ k. subst P (cut_act_lem k (λ x. f x x) img ∙ sym (cut_act_lem k (f img) img)) (p.holds k) }

-- reading alone
always_reads-only : {A : Type 0} {P : List ℕ → Type 0} (g : List ℕ → A) {img : List ℕ} → P img → Always P (reads g) img
always_reads-only g {img} p = record { holds = λ k. rw (cut_act_lem k (reads g) img, stores-reads g img, cut-none k img) p }

reads-out : {A : Type 0} (g : List ℕ → A) (img : List ℕ) {a : A} → (reads g img).out ≡ got a → g img ≡ a
unfolding reads
reads-out g img e = cc

-- ---- stores in a row

pub goes_append : {Q : List ℕ → ℕ → Type 0} {img : List ℕ} {ss ts : List Store} → Goes Q img ss → Goes Q (apply_all ss img) ts → Goes Q img (ss ++ ts)
unfolding apply_all
goes_append done q = q
goes_append (next p ps) q = next p (goes_append ps q)

-- stores that lie where every image allows it
pub goes_only : {Q : List ℕ → ℕ → Type 0} {R : ℕ → Type 0} → ((x : List ℕ) (j : ℕ) → R j → Q x j) → {ss : List Store} → All (StoreIn R) ss → (img : List ℕ) → Goes Q img ss
goes_only h none img = done
goes_only {Q} {R} h (more {x = s} p ps) img = next (every p) (goes_only h ps (apply s img))
  where
    every : {s : Store} → StoreIn R s → StoreIn (Q img) s
    every none = none
    every (more w ws) = more (λ j lo hi. h img j (w j lo hi)) (every ws)

-- ---- a call whose images keep P and whose stores lie in Q, if its images are seen

module _ (Q : List ℕ → ℕ → Type 0) (P Seen : List ℕ → Type 0) where
  pub record Kind {A : Type 0} (m : Act A) (img : List ℕ) : Type 0 where
    pub keeps : Always P m img
    pub goes : Goes Q img (m img).stores

  abbrev pub Fine : {A : Type 0} → Act A → List ℕ → Type 0
  Fine m img = Always Seen m img → Kind m img

  pub fine_bind : {A B : Type 0} {m : Act A} {f : A → Act B} {img : List ℕ} → Fine m img
      → ((a : A) → (m img).out ≡ got a → P (apply_all (m img).stores img) → Fine (f a) (apply_all (m img).stores img)) → Fine (m >>= f) img
  fine_bind {A} {B} {m} {f} {img} p q seen =
      let first = p (always_before m f seen) in
      record { keeps = always-bind first.keeps (λ a e. (q a e (always-all first.keeps) (always_after m f e seen)).keeps); goes = go first (m img).out refl }
    where
      go : Kind m img → (o : Out A) → (m img).out ≡ o → Goes Q img ((m >>= f) img).stores
      go first (got a) e = rw (stores-good m f img e) (goes_append first.goes (q a e (always-all first.keeps) (always_after m f e seen)).goes)
      go first (refused n) e = rw (stores-bad m f img e) first.goes

  pub fine-pure : {A : Type 0} (a : A) {img : List ℕ} → P img → Fine (pure a) img
  fine-pure a {img} p seen = record { keeps = always-pure a p; goes = rw (stores-pure a img) done }

  pub fine-refuse : (A : Type 0) (e : Refusal) {img : List ℕ} → P img → Fine (refuse {A = A} e) img
  fine-refuse A e {img} p seen = record { keeps = always-refuse A e p; goes = rw (stores-refuse A e img) done }

  pub fine-store : (s : Store) {img : List ℕ} → P img → P (apply s img) → (Seen img → StoreIn (Q img) s) → Fine (store s) img
  fine-store s {img} p q o seen = record { keeps = always-store s p q; goes = rw (stores-store s img) (next (o (always-start seen)) done) }

  pub fine-store-bind : {B : Type 0} (s : Store) (f : Unit {0} → Act B) {img : List ℕ} → P img → P (apply s img) → (Seen img → StoreIn (Q img) s) → Fine (f (tt {0})) (apply s img) → Fine (store s >>= f) img
  fine-store-bind s f {img} p q o r =
      fine_bind {m = store s} {f = f} (fine-store s p q o) (λ _ _ _. rw (stores-store s img, apply_all-one s img) r)

  pub fine-choose : {A : Type 0} (b : Bool) {x y : Act A} {img : List ℕ} → (b ≡ true → Fine x img) → (b ≡ false → Fine y img) → Fine (choose b x y) img
  unfolding choose
  fine-choose true p q = p refl
  fine-choose false p q = q refl

  pub fine-given : {A B : Type 0} (o : Out A) (f : A → Act B) {img : List ℕ} → P img → ((a : A) → Fine (f a) img) → Fine (given o f) img
  fine-given (got a) f p q = q a
  fine-given {B = B} (refused e) f p q = fine-refuse B e p

  -- a call that reads first
  pub fine-reads : {A : Type 0} (f : List ℕ → Act A) {img : List ℕ} → (Seen img → Fine (f img) img) → Fine (λ x. f x x) img
  fine-reads f {img} p seen = let k = p (always-start seen) (always_read-before f seen) in record { keeps = always_reads f k.keeps; goes = k.goes }

  pub fine-read : {A B : Type 0} (g : List ℕ → A) (f : A → Act B) {img : List ℕ} → P img → Fine (f (g img)) img → Fine (reads g >>= f) img
  fine-read g f {img} p q =
      fine_bind {m = reads g} {f = f} (λ _. record { keeps = always_reads-only g p; goes = rw (stores-reads g img) done })
      (λ a e _. let same : g img ≡ a = reads-out g img e in rw (stores-reads g img, apply_all-none img) (subst (λ (b : _). Fine (f b) img) same q))

  pub fine-list : (geo : Geometry) {A : Type 0} (a : ℕ) {m : Act A} {img : List ℕ} → P img → (list_ok geo img a ≡ true → Fine m img) → Fine (on_list geo a m) img
  unfolding on_list
  fine-list geo {A} a {m} {img} p h = fine-reads (λ x. choose (list_ok geo x a) m (refuse Damaged)) (λ _. fine-choose (list_ok geo img a) {x = m} {y = refuse Damaged} h (λ _. fine-refuse A Damaged p))
