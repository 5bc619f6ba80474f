-- The laws of `specs/Store.antt`: stores one after another, numbers as writes, and what is read back. Assumes nothing.
use mathlib.Core.Path.{◌≡◌, refl, sym, ap, ◌∙◌}
use mathlib.Core.Bool.{Bool, true, false}
use mathlib.Core.List.{List, [], ◌∷◌, ◌++◌}
use Prim.Native.Nat.{ℕ, ◌+◌, ◌^◌, ◌<◌, ◌≤◌}
use native.Mathlib.Omega.{arith}
use lib.ListN.{length}
use Rattle.field.specs.declared.Order.{Order}
use Rattle.field.specs.Field.{put, digits, turn, part, num, put_num, Bytes}
use Rattle.field.proofs.Laws.{length-put, length-turn, length-digits, part-put, put-part, num-put_num, put_num-num}
use Rattle.store.specs.Store.{Write, Store, number, apply, apply_all, apply_if}
use Rattle.store.specs.Where.{All, none, more, There}

-- ---- one after another

pub apply-none : (img : List ℕ) → apply [] img ≡ img
unfolding apply
apply-none img = refl

pub apply-one : (w : Write) (img : List ℕ) → apply (w ∷ []) img ≡ put w.at w.bytes img
unfolding apply
apply-one w img = refl

pub apply_append : (s t : Store) (img : List ℕ) → apply (s ++ t) img ≡ apply t (apply s img)
unfolding apply
apply_append [] t img = refl
apply_append (w ∷ s) t img = apply_append s t (put w.at w.bytes img)

pub apply_all-none : (img : List ℕ) → apply_all [] img ≡ img
unfolding apply_all
apply_all-none img = refl

pub apply_all-one : (s : Store) (img : List ℕ) → apply_all (s ∷ []) img ≡ apply s img
unfolding apply_all
apply_all-one s img = refl

pub apply_all_append : (ss ts : List Store) (img : List ℕ) → apply_all (ss ++ ts) img ≡ apply_all ts (apply_all ss img)
unfolding apply_all
apply_all_append [] ts img = refl
apply_all_append (s ∷ ss) ts img = apply_all_append ss ts (apply s img)

pub apply_if-yes : {go : Bool} → go ≡ true → (s : Store) (img : List ℕ) → apply_if go s img ≡ apply s img
unfolding apply_if
apply_if-yes e s img = rw e

pub apply_if_no : {go : Bool} → go ≡ false → (s : Store) (img : List ℕ) → apply_if go s img ≡ img
unfolding apply_if
apply_if_no e s img = rw e

-- writes made together, made one by one
pub apply_if_append : (go : Bool) (s t : Store) (img : List ℕ) → apply_if go (s ++ t) img ≡ apply_if go t (apply_if go s img)
unfolding apply_if
apply_if_append true s t img = apply_append s t img
apply_if_append false s t img = refl

-- ---- lengths

pub length-apply : (s : Store) (img : List ℕ) → length (apply s img) ≡ length img
unfolding apply
length-apply [] img = refl
length-apply (w ∷ s) img = length-apply s (put w.at w.bytes img) ∙ length-put w.at w.bytes img

pub length-apply_all : (ss : List Store) (img : List ℕ) → length (apply_all ss img) ≡ length img
unfolding apply_all
length-apply_all [] img = refl
length-apply_all (s ∷ ss) img = length-apply_all ss (apply s img) ∙ length-apply s img

pub length-apply_if : (go : Bool) (s : Store) (img : List ℕ) → length (apply_if go s img) ≡ length img
unfolding apply_if
length-apply_if true s img = length-apply s img
length-apply_if false s img = refl

-- ---- a number as a write

module _ (o : Order) (n at v : ℕ) where
  pub number_at : (number o n at v).at ≡ at
  unfolding number
  number_at = refl

  pub number-bytes : (number o n at v).bytes ≡ turn o (digits n v)
  unfolding number
  number-bytes = refl

  pub number-length : length (number o n at v).bytes ≡ n
  number-length = ap length number-bytes ∙ length-turn o (digits n v) ∙ length-digits n v

  put-number : (img : List ℕ) → put (number o n at v).at (number o n at v).bytes img ≡ put_num o n at v img
  unfolding number put_num
  put-number img = refl

  pub apply-number : (img : List ℕ) → apply (number o n at v ∷ []) img ≡ put_num o n at v img
  apply-number img = apply-one (number o n at v) img ∙ put-number img

  pub apply_if-number : {go : Bool} → go ≡ true → (img : List ℕ) → apply_if go (number o n at v ∷ []) img ≡ put_num o n at v img
  apply_if-number e img = apply_if-yes e (number o n at v ∷ []) img ∙ apply-number img

  -- what was stored is read back
  pub num-number : (img : List ℕ) → v < 256 ^ n → at + n ≤ length img → num o n at (apply (number o n at v ∷ []) img) ≡ v
  num-number img b h = ap (num o n at) (apply-number img) ∙ num-put_num o n at v img b h

-- ---- what is there, stored again, changes nothing

put-there : {w : Write} {img : List ℕ} → There img w → put w.at w.bytes img ≡ img
put-there {w} {img} t = ap (λ (vs : List ℕ). put w.at vs img) (sym t.same) ∙ put-part (length w.bytes) w.at img t.fits

pub apply-same : {img : List ℕ} {s : Store} → All (There img) s → apply s img ≡ img
unfolding apply
apply-same none = refl
apply-same {s = w ∷ s} (more t ts) = ap (apply s) (put-there t) ∙ apply-same ts

pub apply_all-same : {img : List ℕ} {ss : List Store} → All (All (There img)) ss → apply_all ss img ≡ img
unfolding apply_all
apply_all-same none = refl
apply_all-same {ss = s ∷ ss} (more t ts) = ap (apply_all ss) (apply-same t) ∙ apply_all-same ts

pub there-number : (o : Order) (n at : ℕ) (img : List ℕ) → Bytes img → at + n ≤ length img → There img (number o n at (num o n at img))
there-number o n at img b h =
    let w = number o n at (num o n at img) in
    let f : w.at + length w.bytes ≤ length img = omega (arith, number_at o n at (num o n at img), number-length o n at (num o n at img)) in
    let e : put w.at w.bytes img ≡ img = put-number o n at (num o n at img) img ∙ put_num-num o n at img b h in
    record { fits = f; same = ap (part (length w.bytes) w.at) (sym e) ∙ part-put w.at w.bytes img f }
