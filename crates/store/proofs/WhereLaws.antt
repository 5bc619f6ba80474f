-- What stores leave as it was, and what they fix: bytes, parts and number fields. Assumes nothing.
use mathlib.Core.Path.{◌≡◌, refl, sym, ap, ◌∙◌}
use mathlib.Core.List.{List, [], ◌∷◌, ◌++◌}
use mathlib.Core.Logic.{◌⊎◌, inl, inr, ⊎_elim}
use Prim.Native.Nat.{ℕ, zero, suc, ◌+◌, ◌^◌, ◌<◌, ◌≤◌}
use native.Mathlib.Nat.{zero-add}
use native.Mathlib.Omega.{arith}
use native.Mathlib.Decide.{dec_lt, dec_le, ℕ_discrete}
use lib.ListN.{length, take, get_or, set, length-set, get_or-eq_default}
use lib.Seq.{get_or-set_other, get_or-set_same, ext_get_or, take-length}
use Rattle.field.specs.declared.Order.{Order}
use Rattle.field.specs.Field.{put, part, num, put_num, Kept}
use Rattle.field.proofs.Laws.{length-put, length-part, get_or-put, get_or-part, part-put, part_at, put-none, put-more, kept-refl, kept-put, kept-part, kept-num, num-put_num}
use Rattle.store.specs.Store.{Write, Store, number, apply, apply_all}
use Rattle.store.specs.Where.{All, none, more, Apart, Outside, OutsideAll, Range}
use Rattle.store.proofs.StoreLaws.{apply-one, apply_append, apply_all-one, length-apply, length-apply_all, number_at, number-length, apply-number}

-- ---- `All`

pub all_append : {A : Type 0} {P : A → Type 0} {xs ys : List A} → All P xs → All P ys → All P (xs ++ ys)
all_append none q = q
all_append (more p ps) q = more p (all_append ps q)

pub all_parts : {A : Type 0} {P : A → Type 0} (xs : List A) {ys : List A} → All P (xs ++ ys) → All P xs × All P ys
all_parts [] p = (none, p)
all_parts (x ∷ xs) (more p ps) = let q = all_parts xs ps in (more p q.0, q.1)

pub all-take : {A : Type 0} {P : A → Type 0} (k : ℕ) {xs : List A} → All P xs → All P (take k xs)
all-take zero p = none
all-take (suc k) none = none
all-take (suc k) (more p ps) = more p (all-take k ps)

pub all-more : {A : Type 0} {P Q : A → Type 0} → ((x : A) → P x → Q x) → {xs : List A} → All P xs → All Q xs
all-more h none = none
all-more h (more {x = x} p ps) = more (h x p) (all-more h ps)

-- ---- a byte outside is as it was

pub number-apart : (o : Order) (n at v : ℕ) {j : ℕ} → (j < at) ⊎ (at + n ≤ j) → Apart j (number o n at v)
number-apart o n at v h =
    let a = number_at o n at v in
    let l = number-length o n at v in
    ⊎_elim (λ b. inl (omega arith)) (λ b. inr (omega arith)) h

pub number_meets : (o : Order) (n at v : ℕ) {j : ℕ} → Range at n j → Apart j (number o n at v) → ⊥
number_meets o n at v r a =
    let e = number_at o n at v in
    let l = number-length o n at v in
    ⊎_elim (λ b. omega arith) (λ b. omega arith) a

pub apply_outside : {j : ℕ} {s : Store} → Outside j s → (img : List ℕ) → get_or (apply s img) j 0 ≡ get_or img j 0
unfolding apply
apply_outside none img = refl
apply_outside {j} {s = w ∷ s} (more p ps) img = apply_outside ps (put w.at w.bytes img) ∙ get_or-put w.at w.bytes img j p

pub apply_all_outside : {j : ℕ} {ss : List Store} → OutsideAll j ss → (img : List ℕ) → get_or (apply_all ss img) j 0 ≡ get_or img j 0
unfolding apply_all
apply_all_outside none img = refl
apply_all_outside {ss = s ∷ ss} (more p ps) img = apply_all_outside ps (apply s img) ∙ apply_outside p img

-- ---- two images that agree in a range have one part and one number there

module _ (n at : ℕ) (xs ys : List ℕ) (l : length ys ≡ length xs) (e : (j : ℕ) → Range at n j → get_or ys j 0 ≡ get_or xs j 0) where
  -- an image that is ys before the range, and xs from its start on
  record Between : Type 0 where
    mid : List ℕ
    low : Kept 0 at xs mid
    high : Kept (at + n) (length xs) mid ys

  past : (zs : List ℕ) → length zs ≡ length xs → (k : ℕ) → length xs ≤ k → get_or zs k 0 ≡ 0
  past zs m k h = get_or-eq_default zs 0 (omega arith)

  below : at ≤ length xs → (k : ℕ) → k < at → get_or (put 0 (part at 0 ys) xs) k 0 ≡ get_or ys k 0
  below h k b =
      let m : length (part at 0 ys) ≡ at = length-part at 0 ys (omega arith) in
      rw zero-add at (part_at 0 (part at 0 ys) (put 0 (part at 0 ys) xs) k (omega arith) (part-put 0 (part at 0 ys) xs (omega arith)) ∙ get_or-part at 0 ys k b)

  joined : at ≤ length xs → (k : ℕ) → k < at + n → Dec (k < at) → get_or ys k 0 ≡ get_or (put 0 (part at 0 ys) xs) k 0
  joined h k b (yes c) = sym (below h k c)
  joined h k b (no c) =
      let m : length (part at 0 ys) ≡ at = length-part at 0 ys (omega arith) in
      e k (omega arith, b) ∙ sym (get_or-put 0 (part at 0 ys) xs k (inr (omega arith)))

  between : Dec (at ≤ length xs) → Between
  between (yes h) =
      let zs = put 0 (part at 0 ys) xs in
      let m : length zs ≡ length xs = length-put 0 (part at 0 ys) xs in
      record {
        mid = zs;
        low = rw (length-part at 0 ys (omega arith)) at (kept-put 0 (part at 0 ys) xs);
        high = record {
          long = l ∙ sym m;
          byte = λ k o. ⊎_elim (λ b. joined h k b (dec_lt k at)) (λ b. past ys l k (omega arith) ∙ sym (past zs m k (omega arith))) o;
        };
      }
  between (no h) =
      record {
        mid = ys;
        low = record { long = l; byte = λ k o. ⊎_elim (λ b. absurd (let z : ⊥ = omega arith in z)) (λ b. past ys l k (omega arith) ∙ sym (past xs refl k (omega arith))) o };
        high = kept-refl (at + n) (length xs) ys;
      }

  pub part-agree : part n at ys ≡ part n at xs
  part-agree =
      let b = between (dec_le at (length xs)) in
      kept-part n at b.high (inl (omega arith)) ∙ kept-part n at b.low (inr (omega arith))

  pub num-agree : (o : Order) → num o n at ys ≡ num o n at xs
  num-agree o =
      let b = between (dec_le at (length xs)) in
      kept-num o n at b.high (inl (omega arith)) ∙ kept-num o n at b.low (inr (omega arith))

-- a part and a number field that no write meets are as they were
module _ (n at : ℕ) {ss : List Store} (o : (j : ℕ) → Range at n j → OutsideAll j ss) (img : List ℕ) where
  pub apply_all-part : part n at (apply_all ss img) ≡ part n at img
  apply_all-part = part-agree n at img (apply_all ss img) (length-apply_all ss img) (λ j r. apply_all_outside (o j r) img)

  pub apply_all-num : (q : Order) → num q n at (apply_all ss img) ≡ num q n at img
  apply_all-num q = num-agree n at img (apply_all ss img) (length-apply_all ss img) (λ j r. apply_all_outside (o j r) img) q

module _ (n at : ℕ) {s : Store} (o : (j : ℕ) → Range at n j → Outside j s) (img : List ℕ) where
  pub apply-part : part n at (apply s img) ≡ part n at img
  apply-part = rw apply_all-one at (apply_all-part n at (λ j r. more (o j r) none) img)

  pub apply-num : (q : Order) → num q n at (apply s img) ≡ num q n at img
  apply-num q = rw apply_all-one at (apply_all-num n at (λ j r. more (o j r) none) img q)

-- ---- two images that agree outside some stores are equal once both have them

set_agree : (a b : List ℕ) (i v j : ℕ) → length a ≡ length b → Dec (j ≡ i) → ((j ≡ i → ⊥) → get_or a j 0 ≡ get_or b j 0) → get_or (set a i v) j 0 ≡ get_or (set b i v) j 0
set_agree a b i v j l (no q) h = get_or-set_other a i j v 0 q ∙ h q ∙ sym (get_or-set_other b i j v 0 q)
set_agree a b i v j l (yes q) h = rw q (go (dec_lt i (length a)))
  where
    go : Dec (i < length a) → get_or (set a i v) i 0 ≡ get_or (set b i v) i 0
    go (yes m) = get_or-set_same a i v 0 m ∙ sym (get_or-set_same b i v 0 (omega arith))
    go (no m) =
        get_or-eq_default (set a i v) 0 (omega (arith, length-set a i v))
        ∙ sym (get_or-eq_default (set b i v) 0 (omega (arith, length-set b i v)))

module _ (at : ℕ) (vs a b : List ℕ) (l : length a ≡ length b) (j : ℕ) where
  -- the first i bytes of vs written
  put-agree-upto : (i : ℕ) → i ≤ length vs → ((j < at) ⊎ (at + i ≤ j) → get_or a j 0 ≡ get_or b j 0) → get_or (put at (take i vs) a) j 0 ≡ get_or (put at (take i vs) b) j 0
  put-agree-upto zero m h = rw (put-none at a, put-none at b) (side (dec_lt j at))
    where
      side : Dec (j < at) → get_or a j 0 ≡ get_or b j 0
      side (yes c) = h (inl c)
      side (no c) = h (inr (omega arith))
  put-agree-upto (suc i) m h =
      rw (put-more at vs a i m, put-more at vs b i m)
      (set_agree (put at (take i vs) a) (put at (take i vs) b) (at + i) (get_or vs i 0) j
      (length-put at (take i vs) a ∙ l ∙ sym (length-put at (take i vs) b))
      (ℕ_discrete j (at + i))
      (λ q. put-agree-upto i (omega arith) (λ o. h (⊎_elim (λ c. inl c) (λ c. inr (omega (arith, q))) o))))

  put-agree : ((j < at) ⊎ (at + length vs ≤ j) → get_or a j 0 ≡ get_or b j 0) → get_or (put at vs a) j 0 ≡ get_or (put at vs b) j 0
  put-agree h = rw (take-length vs) at (put-agree-upto (length vs) (omega arith) h)

apply_agree : (s : Store) (a b : List ℕ) → length a ≡ length b → (j : ℕ) → (Outside j s → get_or a j 0 ≡ get_or b j 0) → get_or (apply s a) j 0 ≡ get_or (apply s b) j 0
unfolding apply
apply_agree [] a b l j h = h none
apply_agree (w ∷ s) a b l j h =
    apply_agree s (put w.at w.bytes a) (put w.at w.bytes b)
    (length-put w.at w.bytes a ∙ l ∙ sym (length-put w.at w.bytes b)) j
    (λ o. put-agree w.at w.bytes a b l j (λ p. h (more p o)))

apply_all_agree : (ss : List Store) (a b : List ℕ) → length a ≡ length b → (j : ℕ) → (OutsideAll j ss → get_or a j 0 ≡ get_or b j 0) → get_or (apply_all ss a) j 0 ≡ get_or (apply_all ss b) j 0
unfolding apply_all
apply_all_agree [] a b l j h = h none
apply_all_agree (s ∷ ss) a b l j h =
    apply_all_agree ss (apply s a) (apply s b) (length-apply s a ∙ l ∙ sym (length-apply s b)) j
    (λ o. apply_agree s a b l j (λ p. h (more p o)))

pub apply_all_cover : (ss : List Store) (a b : List ℕ) → length a ≡ length b → ((j : ℕ) → OutsideAll j ss → get_or a j 0 ≡ get_or b j 0) → apply_all ss a ≡ apply_all ss b
apply_all_cover ss a b l h =
    ext_get_or 0 (apply_all ss a) (apply_all ss b) (length-apply_all ss a ∙ l ∙ sym (length-apply_all ss b)) (λ j m. apply_all_agree ss a b l j (h j))

-- ---- what a store writes, and none of its later writes meets, is read back

module _ (before after : Store) (img : List ℕ) where
  last-write : (w : Write) → apply (before ++ w ∷ after) img ≡ apply after (put w.at w.bytes (apply before img))
  last-write w = apply_append before (w ∷ after) img ∙ apply_append (w ∷ []) after (apply before img) ∙ ap (apply after) (apply-one w (apply before img))

  pub part-written : (w : Write) → ((j : ℕ) → Range w.at (length w.bytes) j → Outside j after) → w.at + length w.bytes ≤ length img
      → part (length w.bytes) w.at (apply (before ++ w ∷ after) img) ≡ w.bytes
  part-written w o h =
      ap (part (length w.bytes) w.at) (last-write w)
      ∙ apply-part (length w.bytes) w.at o (put w.at w.bytes (apply before img))
      ∙ part-put w.at w.bytes (apply before img) (omega (arith, length-apply before img))

  pub num-written : (o : Order) (n at v : ℕ) → ((j : ℕ) → Range at n j → Outside j after) → v < 256 ^ n → at + n ≤ length img
      → num o n at (apply (before ++ number o n at v ∷ after) img) ≡ v
  num-written o n at v p b h =
      ap (num o n at) (last-write (number o n at v) ∙ ap (apply after) (sym (apply-one (number o n at v) (apply before img)) ∙ apply-number o n at v (apply before img)))
      ∙ apply-num n at p (put_num o n at v (apply before img)) o
      ∙ num-put_num o n at v (apply before img) b (omega (arith, length-apply before img))
