-- Numbers of a record that stand one after another: which bytes they cover, and that they are read back. Assumes nothing.
use mathlib.Core.Path.{◌≡◌, refl, sym, ap, ◌∙◌}
use mathlib.Core.Bool.{Bool, true, false, ◌&&◌}
use mathlib.Core.List.{List, [], ◌∷◌, ◌++◌}
use Prim.Native.Nat.{ℕ, zero, suc, ◌+◌, ◌*◌, ◌<◌, ◌≤◌}
use native.Mathlib.Nat.{zero-add}
use native.Mathlib.Omega.{arith}
use native.Mathlib.Decide.{dec_lt}
use lib.Dec.{T, eqb, eqb→eq}
use lib.ListN.{length, get_or}
use Rattle.field.specs.Field.{num, put_num}
use Rattle.field.specs.declared.Order.{Order}
use Rattle.field.proofs.Laws.{length-put_num, num-put_num}
use Rattle.store.specs.Store.{Store, number, apply}
use Rattle.store.specs.Where.{All, none, more, Outside, StoreIn, Range}
use Rattle.store.proofs.StoreLaws.{apply-none, apply-number, apply_append}
use Rattle.store.proofs.WhereLaws.{all-more, apply-num, number_meets}
use Rattle.store.proofs.OnlyLaws.{number_in, only_none, only_stores, only-outside}
use Rattle.inode_record.specs.Record.{listed, Slot, holds, row, Fit, written}

-- ---- `listed`

pub listed-none : {A : Type 0} (f : ℕ → A) (k : ℕ) → listed f k 0 ≡ []
unfolding listed
listed-none f k = refl

-- one more at the end
pub listed-more : {A : Type 0} (f : ℕ → A) (k n : ℕ) → listed f k (suc n) ≡ listed f k n ++ f (k + n) ∷ []
unfolding listed
listed-more {A} f k zero = ap (λ (i : ℕ). f i ∷ []) (omega arith)
listed-more {A} f k (suc n) =
    ap (λ (l : List A). f k ∷ l) (listed-more f (suc k) n ∙ ap (λ (i : ℕ). listed f (suc k) n ++ f i ∷ []) (omega arith))

pub listed-same : {A : Type 0} (f g : ℕ → A) (k n : ℕ) → ((j : ℕ) → k ≤ j → j < k + n → f j ≡ g j) → listed f k n ≡ listed g k n
unfolding listed
listed-same f g k zero h = refl
listed-same {A} f g k (suc n) h =
    ap (λ (x : A). x ∷ listed f (suc k) n) (h k (omega arith) (omega arith))
    ∙ ap (λ (l : List A). g k ∷ l) (listed-same f g (suc k) n (λ j a b. h j (omega arith) (omega arith)))

listed-shift : {A : Type 0} (f : ℕ → A) (k n : ℕ) → listed f (suc k) n ≡ listed (λ j. f (suc j)) k n
unfolding listed
listed-shift f k zero = refl
listed-shift {A} f k (suc n) = ap (λ (l : List A). f (suc k) ∷ l) (listed-shift f (suc k) n)

-- the elements of a list, listed
listed_elements : (vs : List ℕ) → listed (λ k. get_or vs k 0) 0 (length vs) ≡ vs
unfolding listed
listed_elements [] = refl
listed_elements (v ∷ vs) = ap (λ (l : List ℕ). v ∷ l) (listed-shift (λ k. get_or (v ∷ vs) k 0) 0 (length vs) ∙ listed_elements vs)

pub listed-whole : (vs : List ℕ) (n : ℕ) → length vs ≡ n → listed (λ k. get_or vs k 0) 0 n ≡ vs
listed-whole vs n e = ap (listed (λ k. get_or vs k 0) 0) (sym e) ∙ listed_elements vs

pub get_or-listed : (f : ℕ → ℕ) (k n j : ℕ) → j < n → get_or (listed f k n) j 0 ≡ f (k + j)
unfolding listed
get_or-listed f k zero j h = absurd (let z : ⊥ = omega arith in z)
get_or-listed f k (suc n) zero h = ap f (omega arith)
get_or-listed f k (suc n) (suc j) h = get_or-listed f (suc k) n j (omega arith) ∙ ap f (omega arith)

pub length-listed : {A : Type 0} (f : ℕ → A) (k n : ℕ) → length (listed f k n) ≡ n
unfolding listed
length-listed f k zero = refl
length-listed f k (suc n) = ap suc (length-listed f (suc k) n)

module _ {A : Type 0} {P : A → Type 0} (f : ℕ → A) where
  pub all_listed : (k n : ℕ) → ((j : ℕ) → k ≤ j → j < k + n → P (f j)) → All P (listed f k n)
  unfolding listed
  all_listed k zero h = none
  all_listed k (suc n) h = more (h k (omega arith) (omega arith)) (all_listed (suc k) n (λ j a b. h j (omega arith) (omega arith)))

  pub listed-all : (k n : ℕ) → All P (listed f k n) → (j : ℕ) → k ≤ j → j < k + n → P (f j)
  unfolding listed
  listed-all k zero p j a b = absurd (let z : ⊥ = omega arith in z)
  listed-all k (suc n) (more p ps) j a b = go (dec_lt k j) (λ c. listed-all (suc k) n ps j (omega arith) (omega arith))
    where
      go : Dec (k < j) → (k < j → P (f j)) → P (f j)
      go (yes c) later = later c
      go (no c) later = let e : k ≡ j = omega arith in rw (← e) p

-- ---- slots written one by one

module _ (o : Order) (at : ℕ) where
  pub apply-slots-none : (img : List ℕ) → apply (written o at []) img ≡ img
  unfolding written
  apply-slots-none img = apply-none img

  pub apply-slot : (s : Slot) (ss : List Slot) (img : List ℕ) → apply (written o at (s ∷ ss)) img ≡ apply (written o at ss) (put_num o s.width (at + s.place) s.value img)
  unfolding written
  apply-slot s ss img =
      let w = number o s.width (at + s.place) s.value in
      apply_append (w ∷ []) (written o at ss) img ∙ ap (apply (written o at ss)) (apply-number o s.width (at + s.place) s.value img)

  -- a slot written, and then the others; and no other
  pub slot-then : (s : Slot) (ss : List Slot) (img : List ℕ) {next last : List ℕ} → next ≡ put_num o s.width (at + s.place) s.value img → last ≡ apply (written o at ss) next → last ≡ apply (written o at (s ∷ ss)) img
  slot-then s ss img e f = f ∙ ap (apply (written o at ss)) e ∙ sym (apply-slot s ss img)

  pub slots_end : (img : List ℕ) → img ≡ apply (written o at []) img
  slots_end img = sym (apply-slots-none img)

  pub written-append : (ss ts : List Slot) → written o at (ss ++ ts) ≡ written o at ss ++ written o at ts
  unfolding written
  written-append [] ts = refl
  written-append (s ∷ ss) ts = ap (λ (l : Store). number o s.width (at + s.place) s.value ∷ l) (written-append ss ts)

  pub apply-slots : (ss ts : List Slot) (img : List ℕ) → apply (written o at (ss ++ ts)) img ≡ apply (written o at ts) (apply (written o at ss) img)
  apply-slots ss ts img = ap (λ (s : Store). apply s img) (written-append ss ts) ∙ apply_append (written o at ss) (written o at ts) img

  -- slots written, and then others
  pub slots-then : (ss ts : List Slot) (img : List ℕ) {next last : List ℕ} → next ≡ apply (written o at ss) img → last ≡ apply (written o at ts) next → last ≡ apply (written o at (ss ++ ts)) img
  slots-then ss ts img e f = f ∙ ap (apply (written o at ts)) e ∙ sym (apply-slots ss ts img)

  module _ (p w : ℕ) (vs : List ℕ) (img : List ℕ) where
    pub row-none : img ≡ apply (written o at (row p w 0 vs)) img
    row-none = slots_end img ∙ ap (λ (l : List Slot). apply (written o at l) img) (sym (listed-none (λ k. holds (p + k * w) w (get_or vs k 0)) 0))

    row_more : (k : ℕ) → apply (written o at (row p w (suc k) vs)) img ≡ put_num o w (at + (p + k * w)) (get_or vs k 0) (apply (written o at (row p w k vs)) img)
    row_more k =
        let f : ℕ → Slot = λ (i : ℕ). holds (p + i * w) w (get_or vs i 0) in
        let done = apply (written o at (row p w k vs)) img in
        ap (λ (l : List Slot). apply (written o at l) img) (listed-more f 0 k)
        ∙ apply-slots (listed f 0 k) (f (0 + k) ∷ []) img
        ∙ ap (λ (i : ℕ). apply (written o at (f i ∷ [])) done) (zero-add k)
        ∙ apply-slot (f k) [] done
        ∙ apply-slots-none (put_num o w (at + (p + k * w)) (get_or vs k 0) done)

    -- one number more
    pub row_step : (k : ℕ) {last next : List ℕ} → last ≡ apply (written o at (row p w k vs)) img → next ≡ put_num o w (at + (p + k * w)) (get_or vs k 0) last
        → next ≡ apply (written o at (row p w (k + 1) vs)) img
    row_step k e f =
        f ∙ ap (put_num o w (at + (p + k * w)) (get_or vs k 0)) e
        ∙ sym (row_more k)
        ∙ ap (λ (n : ℕ). apply (written o at (row p w n vs)) img) (omega arith)

-- ---- one after another

-- the slots stand one after another from place p to place q, with nothing between them
abbrev pub along : ℕ → ℕ → List Slot → Bool
along p q [] = eqb p q
along p q (s ∷ ss) = eqb s.place p && along (p + s.width) q ss

-- byte j is one of the record at `at`, from place p to place q
abbrev pub Between : ℕ → ℕ → ℕ → ℕ → Type 0
Between at p q j = (at + p ≤ j) × (j < at + q)

both : (a b : Bool) → T (a && b) → T a × T b
both true true t = (tt, tt)
both true false t = absurd t
both false b t = absurd t

-- the first stands at p, and the others from its end on
first_along : (p q : ℕ) (s : Slot) (ss : List Slot) → T (along p q (s ∷ ss)) → (s.place ≡ p) × T (along (p + s.width) q ss)
first_along p q s ss t =
    let b = both (eqb s.place p) (along (p + s.width) q ss) t in
    (eqb→eq s.place p b.0, b.1)

along_upward : (p q : ℕ) (ss : List Slot) → T (along p q ss) → p ≤ q
along_upward p q [] t = omega (arith, eqb→eq p q t)
along_upward p q (s ∷ ss) t = omega (arith, along_upward (p + s.width) q ss (first_along p q s ss t).1)

module _ (o : Order) (at : ℕ) where
  -- they write bytes between the two places alone
  pub along-inside : (p q : ℕ) (ss : List Slot) → T (along p q ss) → StoreIn (Between at p q) (written o at ss)
  unfolding written
  along-inside p q [] t = none
  along-inside p q (s ∷ ss) t =
      let f = first_along p q s ss t in
      let u = along_upward (p + s.width) q ss f.1 in
      more (number_in o s.width (at + s.place) s.value (λ j r. (omega (arith, f.0, r.0), omega (arith, f.0, r.1, u))))
      (all-more (λ w i j a b. let z = i j a b in (omega (arith, z.0), z.1)) (along-inside (p + s.width) q ss f.1))

  -- and every one of them
  pub along-covers : (p q : ℕ) (ss : List Slot) → T (along p q ss) → (j : ℕ) → Between at p q j → Outside j (written o at ss) → ⊥
  unfolding written
  along-covers p q [] t j b n = let e = eqb→eq p q t in omega (arith, e, b.0, b.1)
  along-covers p q (s ∷ ss) t j b (more n ns) = go (first_along p q s ss t) (dec_lt j (at + (p + s.width))) (λ u c. along-covers (p + s.width) q ss u j (c, b.1) ns)
    where
      go : (s.place ≡ p) × T (along (p + s.width) q ss) → Dec (j < at + (p + s.width)) → (T (along (p + s.width) q ss) → at + (p + s.width) ≤ j → ⊥) → ⊥
      go f (yes c) later = number_meets o s.width (at + s.place) s.value (omega (arith, f.0, b.0), omega (arith, f.0, c)) n
      go f (no c) later = later f.1 (omega arith)

  outside : (Q : ℕ → Type 0) (s : Store) → StoreIn Q s → (j : ℕ) → (Q j → ⊥) → Outside j s
  outside Q s p j n = go (only-outside (only_stores p only_none) n)
    where
      go : All (Outside j) (s ∷ []) → Outside j s
      go (more x none) = x

  -- what was stored is read back
  pub along-read : (p q : ℕ) (ss : List Slot) → T (along p q ss) → All Fit ss → (img : List ℕ) → at + q ≤ length img
      → All (λ (s : Slot). num o s.width (at + s.place) (apply (written o at ss) img) ≡ s.value) ss
  along-read p q [] t fs img h = none
  along-read p q (s ∷ ss) t (more fit fits) img h =
      let f = first_along p q s ss t in
      let u = along_upward (p + s.width) q ss f.1 in
      let im = put_num o s.width (at + s.place) s.value img in
      let l : length im ≡ length img = length-put_num o s.width (at + s.place) s.value img in
      let e : apply (written o at (s ∷ ss)) img ≡ apply (written o at ss) im = apply-slot o at s ss img in
      let later : (j : ℕ) → Range (at + s.place) s.width j → Outside j (written o at ss) = λ j r. outside (Between at (p + s.width) q) (written o at ss) (along-inside (p + s.width) q ss f.1) j (λ z. omega (arith, f.0, r.1, z.0)) in
      more
      (ap (num o s.width (at + s.place)) e
      ∙ apply-num s.width (at + s.place) later im o
      ∙ num-put_num o s.width (at + s.place) s.value img fit (omega (arith, f.0, u, h)))
      (all-more (λ x i. ap (num o x.width (at + x.place)) e ∙ i) (along-read (p + s.width) q ss f.1 fits im (omega (arith, l, h))))
