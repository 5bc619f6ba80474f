-- The laws of `specs/Field.antt`, each over every width. Assumes nothing.
use mathlib.Core.Path.{◌≡◌, refl, sym, ap, subst, ◌∙◌}
use mathlib.Core.List.{List, [], ◌∷◌, ◌++◌, reverse, append_assoc, reverse-reverse, reverse-append, reverse-cons}
use mathlib.Core.Logic.{◌⊎◌, inl, inr, ⊎_elim}
use Prim.Native.Nat.{ℕ, zero, suc, ◌+◌, ◌-◌, ◌*◌, ◌/◌, ◌%◌, ◌^◌, ◌≤◌, ◌<◌}
use native.Mathlib.Nat.{pow-succ', div-div-eq-div-mul, div-one, one-le-pow, zero-add, suc-add, mul_comm, mul_assoc}
use native.Mathlib.Omega.{arith}
use lib.Dec.{T, leb, leb→le, lit<}
use lib.Arith.{mod-mul}
use lib.ListN.{length, get_or, take, drop, set, length-take, length-drop, take-append-drop, length-reverse, length-replicate}
use Rattle.field.specs.declared.Order.{Order}
use Rattle.field.specs.declared.Order.TheVariants.{Little, Big}
use borrow.Rule.Slice.PartMut.{put_mid}
use Rattle.std.proofs.lemmas.Slice.{put_mid-paste}
use lib.Seq.{take_all, sets, length-sets, sets-eq, get_or-set_other, get_or-take, get_or-drop, take-add, take-suc, drop-drop, ext_get_or, take-append_seam, drop_at, length-take-le}
use Rattle.field.specs.Field.{part, put, zeros, value, digits, turn, num, put_num, Bytes, Kept}

-- ---- bytes: `part` and `put`

pub length-part : (n at : ℕ) (xs : List ℕ) → at + n ≤ length xs → length (part n at xs) ≡ n
unfolding part
length-part n at xs h = simp (length-take, length-drop) (omega arith)

pub length-put : (at : ℕ) (vs xs : List ℕ) → length (put at vs xs) ≡ length xs
unfolding put
length-put at vs xs = length-sets xs at vs

pub get_or-part : (n at : ℕ) (xs : List ℕ) (i : ℕ) → i < n → get_or (part n at xs) i 0 ≡ get_or xs (at + i) 0
unfolding part
get_or-part n at xs i h = rw (get_or-take, get_or-drop)

-- a byte outside what is written is as it was
get_or-sets : (vs xs : List ℕ) (at k : ℕ) → (k < at) ⊎ (at + length vs ≤ k) → get_or (sets xs at vs) k 0 ≡ get_or xs k 0
get_or-sets [] xs at k h = refl
get_or-sets (v ∷ vs) xs at k h =
    get_or-sets vs (set xs at v) (suc at) k (⊎_elim (λ l. inl (omega arith)) (λ r. inr (omega arith)) h)
    ∙ get_or-set_other xs at k v 0 (λ e. ⊎_elim (λ l. omega arith) (λ r. omega arith) h)

pub get_or-put : (at : ℕ) (vs xs : List ℕ) (k : ℕ) → (k < at) ⊎ (at + length vs ≤ k) → get_or (put at vs xs) k 0 ≡ get_or xs k 0
unfolding put
get_or-put at vs xs k h = get_or-sets vs xs at k h

-- what was written is read
pub part-put : (at : ℕ) (vs xs : List ℕ) → at + length vs ≤ length xs → part (length vs) at (put at vs xs) ≡ vs
unfolding part put
part-put at vs xs h =
    ap (λ (l : List ℕ). take (length vs) (drop at l)) (sets-eq vs xs at h ∙ append_assoc (take at xs) vs (drop (at + length vs) xs))
    ∙ ap (take (length vs)) (drop_at (take at xs) (vs ++ drop (at + length vs) xs) at (length-take-le at xs (omega arith)))
    ∙ take-append_seam vs (drop (at + length vs) xs)

-- a part that does not meet what is written is as it was
pub part-put-apart : (n a at : ℕ) (vs xs : List ℕ) → (a + n ≤ at) ⊎ (at + length vs ≤ a) → part n a (put at vs xs) ≡ part n a xs
unfolding part put
part-put-apart n a at vs xs h =
    ext_get_or 0 (take n (drop a (sets xs at vs))) (take n (drop a xs))
    (simp (length-take, length-drop, length-sets))
    (λ i b.
    let b' : i < n = omega (arith, length-take n (drop a (sets xs at vs))) in
    get_or-take n (drop a (sets xs at vs)) i 0 b'
    ∙ get_or-drop a (sets xs at vs) i 0
    ∙ get_or-sets vs xs at (a + i) (⊎_elim (λ l. inl (omega arith)) (λ r. inr (omega arith)) h)
    ∙ sym (get_or-drop a xs i 0)
    ∙ sym (get_or-take n (drop a xs) i 0 b'))

-- two parts that touch are one
pub part-split : (m n at : ℕ) (xs : List ℕ) → part (m + n) at xs ≡ part m at xs ++ part n (at + m) xs
unfolding part
part-split m n at xs = take-add m n (drop at xs) ∙ ap (λ (l : List ℕ). take m (drop at xs) ++ take n l) (drop-drop m at xs)

sets_append : (us vs xs : List ℕ) (at : ℕ) → sets xs at (us ++ vs) ≡ sets (sets xs at us) (at + length us) vs
sets_append [] vs xs at = ap (λ (k : ℕ). sets xs k vs) (omega arith)
sets_append (u ∷ us) vs xs at =
    sets_append us vs (set xs at u) (suc at) ∙ ap (λ (k : ℕ). sets (sets (set xs at u) (suc at) us) k vs) (omega arith)

pub put_append : (at : ℕ) (us vs xs : List ℕ) → put at (us ++ vs) xs ≡ put (at + length us) vs (put at us xs)
unfolding put
put_append at us vs xs = sets_append us vs xs at

-- one byte more
pub put-none : (at : ℕ) (xs : List ℕ) → put at [] xs ≡ xs
unfolding put
put-none at xs = refl

-- a run that a slice's own method wrote
pub put-middle : (at n : ℕ) (vs xs : List ℕ) → length vs ≡ n → at + n ≤ length xs → put_mid at (at + n - at) xs vs ≡ put at vs xs
unfolding put
put-middle at n vs xs l h =
    put_mid-paste at (at + n - at) xs vs vs n refl (omega arith) (sym l)
    ∙ ap (λ (zs : List ℕ). take at xs ++ zs ++ drop (at + n) xs) (take_all n vs (omega arith))
    ∙ ap (λ (m : ℕ). take at xs ++ vs ++ drop (at + m) xs) (sym l)
    ∙ sym (sets-eq vs xs at (omega arith))

pub put-more : (at : ℕ) (vs xs : List ℕ) (i : ℕ) → i < length vs → put at (take (suc i) vs) xs ≡ set (put at (take i vs) xs) (at + i) (get_or vs i 0)
unfolding put
put-more at vs xs i h =
    ap (sets xs at) (take-suc vs i 0 h)
    ∙ sets_append (take i vs) (get_or vs i 0 ∷ []) xs at
    ∙ ap (λ (k : ℕ). set (sets xs at (take i vs)) (at + k) (get_or vs i 0)) (length-take-le i vs (omega arith))

-- one byte more of a run copied from src
pub put-part-more : (at n from : ℕ) (src xs : List ℕ) (i : ℕ) → i < n → from + n ≤ length src
    → put at (take (suc i) (part n from src)) xs ≡ set (put at (take i (part n from src)) xs) (at + i) (get_or src (from + i) 0)
put-part-more at n from src xs i h l =
    put-more at (part n from src) xs i (omega (arith, length-part n from src l))
    ∙ ap (set (put at (take i (part n from src)) xs) (at + i)) (get_or-part n from src i h)

-- a part is the bytes that stand in its places
pub part-is : (at : ℕ) (vs xs : List ℕ) → at + length vs ≤ length xs → ((i : ℕ) → i < length vs → get_or xs (at + i) 0 ≡ get_or vs i 0) → part (length vs) at xs ≡ vs
part-is at vs xs h e =
    let l = length-part (length vs) at xs h in
    ext_get_or 0 (part (length vs) at xs) vs l (λ i b. get_or-part (length vs) at xs i (omega arith) ∙ e i (omega arith))

pub part_at : (at : ℕ) (vs xs : List ℕ) (i : ℕ) → i < length vs → part (length vs) at xs ≡ vs → get_or xs (at + i) 0 ≡ get_or vs i 0
part_at at vs xs i h e = sym (get_or-part (length vs) at xs i h) ∙ ap (λ (l : List ℕ). get_or l i 0) e

-- what is there, written again, changes nothing
pub put-part : (n at : ℕ) (xs : List ℕ) → at + n ≤ length xs → put at (part n at xs) xs ≡ xs
unfolding part put
put-part n at xs h =
    let e : length (take n (drop at xs)) ≡ n = simp (length-take, length-drop) (omega arith) in
    sets-eq (take n (drop at xs)) xs at (omega arith)
    ∙ append_assoc (take at xs) (take n (drop at xs)) _
    ∙ ap (λ (k : ℕ). take at xs ++ (take n (drop at xs) ++ drop (at + k) xs)) e
    ∙ ap (λ (l : List ℕ). take at xs ++ (take n (drop at xs) ++ l)) (sym (drop-drop n at xs))
    ∙ ap (λ (l : List ℕ). take at xs ++ l) (take-append-drop n (drop at xs))
    ∙ take-append-drop at xs

take-bytes : (n : ℕ) (xs : List ℕ) → Bytes xs → Bytes (take n xs)
take-bytes zero xs b i = lit< tt
take-bytes (suc n) [] b i = lit< tt
take-bytes (suc n) (x ∷ xs) b zero = b 0
take-bytes (suc n) (x ∷ xs) b (suc i) = take-bytes n xs (λ k. b (suc k)) i

-- a part of bytes, and what is left of it: past its end `get_or` gives 0
pub part-bytes : (n at : ℕ) (xs : List ℕ) → Bytes xs → Bytes (part n at xs)
unfolding part
part-bytes n at xs b i = take-bytes n (drop at xs) (λ k. rw get_or-drop (b (at + k))) i

bytes_append : (us vs : List ℕ) → Bytes us → Bytes vs → Bytes (us ++ vs)
bytes_append [] vs g h i = h i
bytes_append (u ∷ us) vs g h zero = g 0
bytes_append (u ∷ us) vs g h (suc i) = bytes_append us vs (λ k. g (suc k)) h i

one-byte : {u : ℕ} → u < 256 → Bytes (u ∷ [])
one-byte h zero = h
one-byte h (suc i) = lit< tt

bytes-reverse : (us : List ℕ) → Bytes us → Bytes (reverse us)
bytes-reverse [] h = λ i. lit< tt
bytes-reverse (u ∷ us) h =
    rw (reverse-cons u us) (bytes_append (reverse us) (u ∷ []) (bytes-reverse us (λ k. h (suc k))) (one-byte (h 0)))

-- ---- zeros

pub length-zeros : (n : ℕ) → length (zeros n) ≡ n
unfolding zeros
length-zeros n = length-replicate n 0

pub get_or-zeros : (n i : ℕ) → get_or (zeros n) i 0 ≡ 0
unfolding zeros
get_or-zeros zero i = refl
get_or-zeros (suc n) zero = refl
get_or-zeros (suc n) (suc i) = get_or-zeros n i

-- one zero more
pub put-zeros-more : (at n : ℕ) (xs : List ℕ) (i : ℕ) → i < n → put at (take (suc i) (zeros n)) xs ≡ set (put at (take i (zeros n)) xs) (at + i) 0
put-zeros-more at n xs i h =
    put-more at (zeros n) xs i (omega (arith, length-zeros n)) ∙ ap (set (put at (take i (zeros n)) xs) (at + i)) (get_or-zeros n i)

-- ---- numbers: `value` and `digits`

pub length-digits : (n v : ℕ) → length (digits n v) ≡ n
unfolding digits
length-digits zero v = refl
length-digits (suc n) v = ap suc (length-digits n (v / 256))

pub value_append : (us vs : List ℕ) → value (us ++ vs) ≡ value us + 256 ^ length us * value vs
unfolding value
value_append [] vs = omega arith
value_append (u ∷ us) vs =
    let e : 256 ^ suc (length us) * value vs ≡ 256 * (256 ^ length us * value vs) = rw (pow-succ', mul_assoc) in
    omega (arith, value_append us vs)

pub value-digits : (n v : ℕ) → v < 256 ^ n → value (digits n v) ≡ v
unfolding value digits
value-digits zero v h = omega arith
value-digits (suc n) v h = omega (arith, value-digits n (v / 256) (omega arith))

pub digits_append : (m n v : ℕ) → digits (m + n) v ≡ digits m v ++ digits n (v / 256 ^ m)
unfolding digits
digits_append zero n v = ap (λ (k : ℕ). digits k v) (zero-add n) ∙ ap (digits n) (sym (div-one v))
digits_append (suc m) n v =
    ap (λ (k : ℕ). digits k v) (suc-add m n)
    ∙ ap (λ (l : List ℕ). v % 256 ∷ l)
    (digits_append m n (v / 256)
    ∙ ap (λ (k : ℕ). digits m (v / 256) ++ digits n k) (div-div-eq-div-mul v 256 (256 ^ m) ∙ ap (λ (p : ℕ). v / p) (sym (pow-succ' 256 m))))

pow_pos : (n : ℕ) → 0 < 256 ^ n
pow_pos n = one-le-pow n 256 (lit< tt)

-- the n low bytes are those of the remainder
pub digits_mod : (n v : ℕ) → digits n (v % 256 ^ n) ≡ digits n v
unfolding digits
digits_mod zero v = refl
digits_mod (suc n) v =
    let e : v % 256 ^ suc n ≡ v / 256 % 256 ^ n * 256 + v % 256 =
    ap (λ (p : ℕ). v % p) (pow-succ' 256 n ∙ mul_comm 256 (256 ^ n)) ∙ mod-mul v (pow_pos n) (lit< tt) in
    let low : v % 256 ^ suc n % 256 ≡ v % 256 = omega arith in
    let high : v % 256 ^ suc n / 256 ≡ v / 256 % 256 ^ n = omega arith in
    ap (λ (b : ℕ). b ∷ digits n (v % 256 ^ suc n / 256)) low
    ∙ ap (λ (l : List ℕ). v % 256 ∷ l) (ap (digits n) high ∙ digits_mod n (v / 256))

pub value-bound : (us : List ℕ) → Bytes us → value us < 256 ^ length us
unfolding value
value-bound [] h = lit< tt
value-bound (u ∷ us) h =
    let e : 256 ^ suc (length us) ≡ 256 * 256 ^ length us = rw pow-succ' in
    omega (arith, value-bound us (λ i. h (suc i)), h 0)

digits-value : (us : List ℕ) → Bytes us → digits (length us) (value us) ≡ us
unfolding value digits
digits-value [] h = refl
digits-value (u ∷ us) h =
    let low : (u + 256 * value us) % 256 ≡ u = omega (arith, h 0) in
    let high : (u + 256 * value us) / 256 ≡ value us = omega (arith, h 0) in
    ap (λ (b : ℕ). b ∷ digits (length us) ((u + 256 * value us) / 256)) low
    ∙ ap (λ (l : List ℕ). u ∷ l) (ap (digits (length us)) high ∙ digits-value us (λ i. h (suc i)))

-- ---- either order: `turn`

pub turn-turn : (o : Order) (bs : List ℕ) → turn o (turn o bs) ≡ bs
unfolding turn
turn-turn Little bs = refl
turn-turn Big bs = reverse-reverse bs

pub length-turn : (o : Order) (bs : List ℕ) → length (turn o bs) ≡ length bs
unfolding turn
length-turn Little bs = refl
length-turn Big bs = length-reverse bs

turn-bytes : (o : Order) (bs : List ℕ) → Bytes bs → Bytes (turn o bs)
unfolding turn
turn-bytes Little bs h = h
turn-bytes Big bs h = bytes-reverse bs h

length-number : (o : Order) (n v : ℕ) → length (turn o (digits n v)) ≡ n
length-number o n v = length-turn o (digits n v) ∙ length-digits n v

-- ---- fields: `num` and `put_num`

pub length-put_num : (o : Order) (n at v : ℕ) (xs : List ℕ) → length (put_num o n at v xs) ≡ length xs
unfolding put_num
length-put_num o n at v xs = length-put at (turn o (digits n v)) xs

-- what was put is read back
pub num-put_num : (o : Order) (n at v : ℕ) (xs : List ℕ) → v < 256 ^ n → at + n ≤ length xs → num o n at (put_num o n at v xs) ≡ v
unfolding num put_num
num-put_num o n at v xs b h =
    ap (λ (l : List ℕ). value (turn o l))
    (ap (λ (k : ℕ). part k at (put at (turn o (digits n v)) xs)) (sym (length-number o n v))
    ∙ part-put at (turn o (digits n v)) xs (omega (arith, length-number o n v)))
    ∙ ap value (turn-turn o (digits n v))
    ∙ value-digits n v b

-- bytes, a byte and a field apart from what was put are as they were
module _ (o : Order) (n at v : ℕ) (xs : List ℕ) where
  pub part-put_num-before : (m a : ℕ) → a + m ≤ at → part m a (put_num o n at v xs) ≡ part m a xs
  unfolding put_num
  part-put_num-before m a h = part-put-apart m a at (turn o (digits n v)) xs (inl h)

  pub part-put_num-after : (m a : ℕ) → at + n ≤ a → part m a (put_num o n at v xs) ≡ part m a xs
  unfolding put_num
  part-put_num-after m a h = part-put-apart m a at (turn o (digits n v)) xs (inr (omega (arith, length-number o n v)))

  pub get_or-put_num-before : (k : ℕ) → k < at → get_or (put_num o n at v xs) k 0 ≡ get_or xs k 0
  unfolding put_num
  get_or-put_num-before k h = get_or-put at (turn o (digits n v)) xs k (inl h)

  pub get_or-put_num-after : (k : ℕ) → at + n ≤ k → get_or (put_num o n at v xs) k 0 ≡ get_or xs k 0
  unfolding put_num
  get_or-put_num-after k h = get_or-put at (turn o (digits n v)) xs k (inr (omega (arith, length-number o n v)))

  pub num-put_num-before : (q : Order) (m a : ℕ) → a + m ≤ at → num q m a (put_num o n at v xs) ≡ num q m a xs
  unfolding num
  num-put_num-before q m a h = ap (λ (l : List ℕ). value (turn q l)) (part-put_num-before m a h)

  pub num-put_num-after : (q : Order) (m a : ℕ) → at + n ≤ a → num q m a (put_num o n at v xs) ≡ num q m a xs
  unfolding num
  num-put_num-after q m a h = ap (λ (l : List ℕ). value (turn q l)) (part-put_num-after m a h)

-- a field in two halves
num_little_at : (m n at : ℕ) (xs : List ℕ) → at + m ≤ length xs → num Little (m + n) at xs ≡ num Little m at xs + 256 ^ m * num Little n (at + m) xs
unfolding num turn
num_little_at m n at xs h =
    ap value (part-split m n at xs) ∙ value_append (part m at xs) (part n (at + m) xs)
    ∙ ap (λ (k : ℕ). value (part m at xs) + 256 ^ k * value (part n (at + m) xs)) (length-part m at xs h)

pub num_little : {o : Order} → o ≡ Little → (m n at : ℕ) (xs : List ℕ) → at + m ≤ length xs → num o (m + n) at xs ≡ num Little m at xs + 256 ^ m * num Little n (at + m) xs
num_little e m n at xs h = rw e (num_little_at m n at xs h)

num_big_at : (m n at : ℕ) (xs : List ℕ) → at + m + n ≤ length xs → num Big (m + n) at xs ≡ num Big n (at + m) xs + 256 ^ n * num Big m at xs
unfolding num turn
num_big_at m n at xs h =
    ap (λ (l : List ℕ). value (reverse l)) (part-split m n at xs)
    ∙ ap value (reverse-append (part m at xs) (part n (at + m) xs))
    ∙ value_append (reverse (part n (at + m) xs)) (reverse (part m at xs))
    ∙ ap (λ (k : ℕ). value (reverse (part n (at + m) xs)) + 256 ^ k * value (reverse (part m at xs)))
    (length-reverse (part n (at + m) xs) ∙ length-part n (at + m) xs h)

pub num_big : {o : Order} → o ≡ Big → (m n at : ℕ) (xs : List ℕ) → at + m + n ≤ length xs → num o (m + n) at xs ≡ num Big n (at + m) xs + 256 ^ n * num Big m at xs
num_big e m n at xs h = rw e (num_big_at m n at xs h)

put_num_little_at : (m n at v : ℕ) (xs : List ℕ) → put_num Little (m + n) at v xs ≡ put_num Little n (at + m) (v / 256 ^ m) (put_num Little m at (v % 256 ^ m) xs)
unfolding put_num turn
put_num_little_at m n at v xs =
    ap (λ (l : List ℕ). put at l xs) (digits_append m n v)
    ∙ put_append at (digits m v) (digits n (v / 256 ^ m)) xs
    ∙ ap (λ (k : ℕ). put (at + k) (digits n (v / 256 ^ m)) (put at (digits m v) xs)) (length-digits m v)
    ∙ ap (λ (l : List ℕ). put (at + m) (digits n (v / 256 ^ m)) (put at l xs)) (sym (digits_mod m v))

pub put_num_little : {o : Order} → o ≡ Little → (m n at v : ℕ) (xs : List ℕ) → put_num o (m + n) at v xs ≡ put_num Little n (at + m) (v / 256 ^ m) (put_num Little m at (v % 256 ^ m) xs)
put_num_little e m n at v xs = rw e (put_num_little_at m n at v xs)

-- the low n bytes stand after the m high ones
put_num_big_at : (n m at v : ℕ) (xs : List ℕ) → put_num Big (n + m) at v xs ≡ put_num Big n (at + m) (v % 256 ^ n) (put_num Big m at (v / 256 ^ n) xs)
unfolding put_num turn
put_num_big_at n m at v xs =
    ap (λ (l : List ℕ). put at (reverse l) xs) (digits_append n m v)
    ∙ ap (λ (l : List ℕ). put at l xs) (reverse-append (digits n v) (digits m (v / 256 ^ n)))
    ∙ put_append at (reverse (digits m (v / 256 ^ n))) (reverse (digits n v)) xs
    ∙ ap (λ (k : ℕ). put (at + k) (reverse (digits n v)) (put at (reverse (digits m (v / 256 ^ n))) xs))
    (length-reverse (digits m (v / 256 ^ n)) ∙ length-digits m (v / 256 ^ n))
    ∙ ap (λ (l : List ℕ). put (at + m) (reverse l) (put at (reverse (digits m (v / 256 ^ n))) xs)) (sym (digits_mod n v))

pub put_num_big : {o : Order} → o ≡ Big → (n m at v : ℕ) (xs : List ℕ) → put_num o (n + m) at v xs ≡ put_num Big n (at + m) (v % 256 ^ n) (put_num Big m at (v / 256 ^ n) xs)
put_num_big e n m at v xs = rw e (put_num_big_at n m at v xs)

-- a field of one byte is that byte
pub num-byte : (o : Order) (at : ℕ) (xs : List ℕ) → num o 1 at xs ≡ get_or xs at 0
unfolding num value part turn
num-byte Little zero [] = refl
num-byte Big zero [] = refl
num-byte Little (suc at) [] = refl
num-byte Big (suc at) [] = refl
num-byte Little zero (x ∷ xs) = omega arith
num-byte Big zero (x ∷ xs) = omega arith
num-byte Little (suc at) (x ∷ xs) = num-byte Little at xs
num-byte Big (suc at) (x ∷ xs) = num-byte Big at xs

pub put_num-byte : (o : Order) (at v : ℕ) (xs : List ℕ) → v < 256 → put_num o 1 at v xs ≡ set xs at v
unfolding put_num put digits turn
put_num-byte Little at v xs h = ap (set xs at) (omega arith)
put_num-byte Big at v xs h = ap (set xs at) (omega arith)

-- the one digit of a byte is the byte, in either order
pub one_digit : (o : Order) (v : ℕ) → v < 256 → turn o (digits 1 v) ≡ v ∷ []
unfolding turn digits
one_digit Little v h = ap (λ (x : ℕ). x ∷ []) (omega arith)
one_digit Big v h = ap (λ (x : ℕ). x ∷ []) (omega arith)

-- a field of a byte image fits its width
pub num-bound : (o : Order) (n at : ℕ) (xs : List ℕ) → Bytes xs → at + n ≤ length xs → num o n at xs < 256 ^ n
unfolding num
num-bound o n at xs b h =
    subst (λ (k : ℕ). value (turn o (part n at xs)) < 256 ^ k) (length-turn o (part n at xs) ∙ length-part n at xs h)
    (value-bound (turn o (part n at xs)) (turn-bytes o (part n at xs) (part-bytes n at xs b)))

-- what is there, put again, changes nothing
pub put_num-num : (o : Order) (n at : ℕ) (xs : List ℕ) → Bytes xs → at + n ≤ length xs → put_num o n at (num o n at xs) xs ≡ xs
unfolding num put_num
put_num-num o n at xs b h =
    let p = turn o (part n at xs) in
    ap (λ (k : ℕ). put at (turn o (digits k (value p))) xs) (sym (length-turn o (part n at xs) ∙ length-part n at xs h))
    ∙ ap (λ (l : List ℕ). put at (turn o l) xs) (digits-value p (turn-bytes o (part n at xs) (part-bytes n at xs b)))
    ∙ ap (λ (l : List ℕ). put at l xs) (turn-turn o (part n at xs))
    ∙ put-part n at xs h

-- ---- `Kept`: outside a range all is as it was

pub kept-refl : (a n : ℕ) (xs : List ℕ) → Kept a n xs xs
kept-refl a n xs = record { long = refl; byte = λ k h. refl }

pub kept_trans : {a n : ℕ} {xs ys zs : List ℕ} → Kept a n xs ys → Kept a n ys zs → Kept a n xs zs
kept_trans p q = record { long = q.long ∙ p.long; byte = λ k h. q.byte k h ∙ p.byte k h }

pub kept_wider : {a n : ℕ} (b m : ℕ) {xs ys : List ℕ} → b ≤ a → a + n ≤ b + m → Kept a n xs ys → Kept b m xs ys
kept_wider b m l r p =
    record { long = p.long; byte = λ k h. p.byte k (⊎_elim (λ x. inl (omega arith)) (λ x. inr (omega arith)) h) }

pub kept-put : (at : ℕ) (vs xs : List ℕ) → Kept at (length vs) xs (put at vs xs)
kept-put at vs xs = record { long = length-put at vs xs; byte = get_or-put at vs xs }

pub kept-put_num : (o : Order) (n at v : ℕ) (xs : List ℕ) → Kept at n xs (put_num o n at v xs)
unfolding put_num
kept-put_num o n at v xs =
    kept_wider at n (omega arith) (omega (arith, length-number o n v)) (kept-put at (turn o (digits n v)) xs)

-- a part outside the range is as it was, and so is a field
pub kept-part : {a n : ℕ} {xs ys : List ℕ} (m b : ℕ) → Kept a n xs ys → (b + m ≤ a) ⊎ (a + n ≤ b) → part m b ys ≡ part m b xs
unfolding part
kept-part {xs = xs} {ys = ys} m b p h =
    let e = p.long in
    ext_get_or 0 (take m (drop b ys)) (take m (drop b xs))
    (simp (length-take, length-drop, p.long))
    (λ i l.
    let l' : i < m = omega (arith, length-take m (drop b ys)) in
    get_or-take m (drop b ys) i 0 l'
    ∙ get_or-drop b ys i 0
    ∙ p.byte (b + i) (⊎_elim (λ x. inl (omega arith)) (λ x. inr (omega arith)) h)
    ∙ sym (get_or-drop b xs i 0)
    ∙ sym (get_or-take m (drop b xs) i 0 l'))

pub kept-num : {a n : ℕ} {xs ys : List ℕ} (o : Order) (m b : ℕ) → Kept a n xs ys → (b + m ≤ a) ⊎ (a + n ≤ b) → num o m b ys ≡ num o m b xs
unfolding num
kept-num o m b p h = ap (λ (l : List ℕ). value (turn o l)) (kept-part m b p h)

-- ---- fields of one record: offsets from `at` that are numerals, where the side condition computes

module _ (o q : Order) (at i m j n v : ℕ) (xs : List ℕ) where
  pub field-before : T (leb (i + m) j) → num q m (at + i) (put_num o n (at + j) v xs) ≡ num q m (at + i) xs
  field-before t = num-put_num-before o n (at + j) v xs q m (at + i) (omega (arith, leb→le (i + m) j t))

  pub field-after : T (leb (j + n) i) → num q m (at + i) (put_num o n (at + j) v xs) ≡ num q m (at + i) xs
  field-after t = num-put_num-after o n (at + j) v xs q m (at + i) (omega (arith, leb→le (j + n) i t))
