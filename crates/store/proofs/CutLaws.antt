-- The laws of `cut` and `cut_act`: the first k stores, of a list and of a call. Assumes nothing.
use mathlib.Core.Path.{◌≡◌, refl, sym, ap, ◌∙◌}
use mathlib.Core.List.{List, [], ◌∷◌, ◌++◌, append_assoc, append-nil}
use Prim.Native.Nat.{ℕ, zero, suc, ◌+◌, ◌-◌, ◌<◌, ◌≤◌, min}
use native.Mathlib.Nat.{zero-sub, sub-zero, suc-sub-suc, add-zero}
use native.Mathlib.Omega.{arith}
use lib.ListN.{length, take, get_or, length-append, length-take}
use lib.Seq.{take-nil, take_all, take-append-le}
use lib.Dec.{ltb, leb-zero, leb-suc-zero, leb-suc-suc}
use Rattle.refusal.specs.declared.Refusal.{Refusal}
use Rattle.store.specs.Store.{Store, apply, apply_all, apply_if, cut, in_turn}
use Rattle.store.specs.Where.{OutsideAll}
use Rattle.store.specs.Act.{Out, got, refused, Act, ◌>>=◌, leaves, made, cut_act}
use Rattle.store.proofs.StoreLaws.{apply_all-none, apply_all-one, length-apply_all}
use Rattle.store.proofs.WhereLaws.{all-take, apply_all_outside}
use Rattle.store.proofs.ActLaws.{stores-good, stores-bad}

-- before the first store the image is as it was
pub cut-zero : (ss : List Store) (img : List ℕ) → cut 0 ss img ≡ img
unfolding cut apply_all
cut-zero ss img = refl

-- a cut is the finished run of the first k stores
pub cut-is : (k : ℕ) (ss : List Store) (img : List ℕ) → cut k ss img ≡ apply_all (take k ss) img
unfolding cut
cut-is k ss img = refl

pub length-cut : (k : ℕ) (ss : List Store) (img : List ℕ) → length (cut k ss img) ≡ length img
unfolding cut
length-cut k ss img = length-apply_all (take k ss) img

pub cut-none : (k : ℕ) (img : List ℕ) → cut k [] img ≡ img
unfolding cut
cut-none k img = rw (take-nil {A = Store} k) (apply_all-none img)

-- a cut at or past the number of stores is the finished run
pub cut-all : (k : ℕ) (ss : List Store) (img : List ℕ) → length ss ≤ k → cut k ss img ≡ apply_all ss img
unfolding cut
cut-all k ss img h = rw (take_all k ss h)

-- a byte that no store meets is as it was
pub cut_outside : {j : ℕ} {ss : List Store} → OutsideAll j ss → (k : ℕ) (img : List ℕ) → get_or (cut k ss img) j 0 ≡ get_or img j 0
unfolding cut
cut_outside o k img = apply_all_outside (all-take k o) img

-- of two runs: a cut of the first, then what is left of the number for the second
pub cut_append : (k : ℕ) (ss ts : List Store) (img : List ℕ) → cut k (ss ++ ts) img ≡ cut (k - length ss) ts (cut k ss img)
unfolding cut apply_all
cut_append zero ss ts img = rw (zero-sub (length ss))
cut_append (suc k) [] ts img = rw (sub-zero (suc k))
cut_append (suc k) (s ∷ ss) ts img = rw (suc-sub-suc k (length ss)) (cut_append k ss ts (apply s img))

pub cut-first : (k : ℕ) (ss ts : List Store) (img : List ℕ) → k ≤ length ss → cut k (ss ++ ts) img ≡ cut k ss img
unfolding cut
cut-first k ss ts img h = rw (take-append-le k ss ts h)

-- one store more: it is made if fewer than k were made before it
pub cut_snoc : (k : ℕ) (ss : List Store) (s : Store) (img : List ℕ) → cut k (ss ++ s ∷ []) img ≡ apply_if (ltb (length ss) k) s (cut k ss img)
unfolding cut apply_all apply_if
cut_snoc zero ss s img = rw (leb-suc-zero (length ss))
cut_snoc (suc k) [] s img = rw (take-nil {A = Store} k, leb-suc-suc 0 k, leb-zero k)
cut_snoc (suc k) (t ∷ ss) s img = rw (leb-suc-suc (suc (length ss)) k) (cut_snoc k ss s (apply t img))

-- stores in a row, as code with a limit makes them, after n + j others
cut_turns : (k n j : ℕ) (ss ts : List Store) (img : List ℕ) → length ss ≡ n + j → cut k (ss ++ ts) img ≡ in_turn k n j ts (cut k ss img)
cut_turns k n j ss [] img e = rw (append-nil ss)
cut_turns k n j ss (t ∷ ts) img e =
    let a : ss ++ t ∷ ts ≡ (ss ++ t ∷ []) ++ ts = sym (append_assoc ss (t ∷ []) ts) in
    let l : length (ss ++ t ∷ []) ≡ n + suc j = omega (arith, length-append ss (t ∷ [])) in
    rw a (cut_turns k n (suc j) (ss ++ t ∷ []) ts img l ∙ rw (cut_snoc k ss t img, e))

-- the stores of a call, each under its own number
pub cut-row : (k : ℕ) (ss : List Store) (img : List ℕ) → cut k ss img ≡ in_turn k 0 0 ss img
cut-row k ss img = cut_turns k 0 0 [] ss img refl ∙ ap (in_turn k 0 0 ss) (cut-none k img)

-- the same after n stores
pub cut-after : (k n : ℕ) (ss : List Store) (s : Store) (ts : List Store) (img : List ℕ) → length ss ≡ n
    → cut k (ss ++ s ∷ ts) img ≡ in_turn k n 1 ts (apply_if (ltb n k) s (cut k ss img))
cut-after k n ss s ts img e = rw add-zero at (cut_turns k n 0 ss (s ∷ ts) img (omega arith))

-- ---- a call cut after k stores

pub cut_act_lem : {A : Type 0} (k : ℕ) (m : Act A) (img : List ℕ) → cut_act k m img ≡ cut k (m img).stores img
unfolding cut_act
cut_act_lem k m img = refl

-- the finished call is the cut at any number that its stores do not pass
pub cut-whole : {A : Type 0} (k : ℕ) (m : Act A) (img : List ℕ) → made m img ≤ k → cut_act k m img ≡ (leaves m img).0
unfolding cut_act leaves
cut-whole k m img h = cut-all k (m img).stores img h

pub cut_start : {A : Type 0} (m : Act A) (img : List ℕ) → cut_act 0 m img ≡ img
unfolding cut_act
cut_start m img = cut-zero (m img).stores img

-- the number of stores that a call answers when it stops after k
pub made-cut : {A : Type 0} (k : ℕ) (m : Act A) (img : List ℕ) → length (take k (m img).stores) ≡ min k (made m img)
made-cut k m img = length-take k (m img).stores

module _ {A B : Type 0} (k : ℕ) (m : Act A) (f : A → Act B) (img : List ℕ) where
  -- a cut of two calls: a cut of the first, then what is left of the number for the second
  pub cut-bind : {a : A} → (m img).out ≡ got a
      → cut_act k (m >>= f) img ≡ cut (k - made m img) (f a (apply_all (m img).stores img)).stores (cut_act k m img)
  unfolding cut_act
  cut-bind {a} e = rw (stores-good m f img e) (cut_append k (m img).stores (f a (apply_all (m img).stores img)).stores img)

  pub cut-refused : {n : Refusal} → (m img).out ≡ refused n → cut_act k (m >>= f) img ≡ cut_act k m img
  unfolding cut_act
  cut-refused e = rw (stores-bad m f img e)

  -- the number ends in the first call, or just after it
  pub cut_short : k ≤ made m img → cut_act k (m >>= f) img ≡ cut_act k m img
  unfolding cut_act
  cut_short h = go (m img).out refl
    where
      go : (o : Out A) → (m img).out ≡ o → cut_act k (m >>= f) img ≡ cut_act k m img
      go (got a) e = rw (stores-good m f img e) (cut-first k (m img).stores (f a (apply_all (m img).stores img)).stores img h)
      go (refused n) e = cut-refused e

  -- or it lets the first call finish
  pub cut-long : {a : A} → (m img).out ≡ got a → made m img ≤ k → cut_act k (m >>= f) img ≡ cut_act (k - made m img) (f a) (apply_all (m img).stores img)
  unfolding cut_act
  cut-long {a} e h =
      cut-bind e ∙ ap (cut (k - made m img) (f a (apply_all (m img).stores img)).stores) (cut-all k (m img).stores img h)

  -- one store more
  pub cut-then : {a : A} (w : Store) → (m img).out ≡ got a → made m img < k → (f a (apply_all (m img).stores img)).stores ≡ w ∷ []
      → cut_act k (m >>= f) img ≡ apply w (cut_act k m img)
  unfolding cut_act
  cut-then {a} w e h q =
      let l : made m img ≤ k = omega arith in
      cut-bind e
      ∙ rw q (cut-all (k - made m img) (w ∷ []) (cut k (m img).stores img) (omega arith) ∙ apply_all-one w (cut k (m img).stores img))
