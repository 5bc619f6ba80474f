-- Single numbers of the record: what is stored of one reads back, stays in the record, and is the struct's member. Assumes nothing.
use mathlib.Core.Path.{◌≡◌, refl, ap, ◌∙◌}
use mathlib.Core.List.{List, [], ◌∷◌}
use mathlib.Core.Logic.{◌⊎◌, inl, inr, ⊎_elim}
use Prim.Native.Nat.{ℕ, ◌+◌, ◌*◌, ◌^◌, ◌<◌, ◌≤◌}
use native.Mathlib.Omega.{arith}
use native.Mathlib.Decide.{dec_lt}
use lib.ListN.{length}
use Rattle.field.specs.Field.{num, put_num}
use Rattle.field.specs.declared.Order.{Order}
use Rattle.field.proofs.Laws.{kept-num}
use Rattle.headers.specs.Layout.{member, ◌!◌}
use Rattle.headers.specs.Dinode.{ufs2_dinode}
use Rattle.headers.specs.Read.{field_at, put_field}
use Rattle.store.specs.Store.{number, apply}
use Rattle.store.specs.Where.{WriteIn, Range}
use Rattle.store.proofs.StoreLaws.{apply-number, num-number}
use Rattle.store.proofs.OnlyLaws.{number_in, kept-number}
use Rattle.inode.specs.Shape.{shape_of, address_at}
use Rattle.inode.specs.Places.{nlink_at, nlink_write, size_at, size_write, blocks_at, blocks_write, address_write, generation_at, extsize_at}

-- a number of w bytes from x on, all in the record at `at`
in_record : (o : Order) (w at x v : ℕ) → at ≤ x → x + w ≤ at + 256 → WriteIn (Range at 256) (number o w x v)
in_record o w at x v a b = number_in o w x v (λ j r. (omega (arith, r.0), omega (arith, r.1)))

module _ (o : Order) (at v : ℕ) where
  pub nlink-write : nlink_write o at v ≡ number o 2 (at + 2) v
  unfolding nlink_write
  nlink-write = refl

  pub nlink-inside : WriteIn (Range at 256) (nlink_write o at v)
  unfolding nlink_write
  nlink-inside = in_record o 2 at (at + 2) v (omega arith) (omega arith)

  pub nlink-back : (img : List ℕ) → v < 256 ^ 2 → at + 256 ≤ length img → nlink_at o at (apply (nlink_write o at v ∷ []) img) ≡ v
  unfolding nlink_at nlink_write
  nlink-back img b h = num-number o 2 (at + 2) v img b (omega arith)

  pub nlink-put-header : (img : List ℕ) → apply (nlink_write o at v ∷ []) img ≡ put_field o ufs2_dinode (member "di_nlink") at v img
  unfolding nlink_write put_field
  nlink-put-header img = apply-number o 2 (at + 2) v img

  pub size-write : size_write o at v ≡ number o 8 (at + 16) v
  unfolding size_write
  size-write = refl

  pub size-inside : WriteIn (Range at 256) (size_write o at v)
  unfolding size_write
  size-inside = in_record o 8 at (at + 16) v (omega arith) (omega arith)

  pub size_back : (img : List ℕ) → v < 256 ^ 8 → at + 256 ≤ length img → size_at o at (apply (size_write o at v ∷ []) img) ≡ v
  unfolding size_at size_write
  size_back img b h = num-number o 8 (at + 16) v img b (omega arith)

  pub size-put-header : (img : List ℕ) → apply (size_write o at v ∷ []) img ≡ put_field o ufs2_dinode (member "di_size") at v img
  unfolding size_write put_field
  size-put-header img = apply-number o 8 (at + 16) v img

  pub blocks-write : blocks_write o at v ≡ number o 8 (at + 24) v
  unfolding blocks_write
  blocks-write = refl

  pub blocks-inside : WriteIn (Range at 256) (blocks_write o at v)
  unfolding blocks_write
  blocks-inside = in_record o 8 at (at + 24) v (omega arith) (omega arith)

  pub blocks-back : (img : List ℕ) → v < 256 ^ 8 → at + 256 ≤ length img → blocks_at o at (apply (blocks_write o at v ∷ []) img) ≡ v
  unfolding blocks_at blocks_write
  blocks-back img b h = num-number o 8 (at + 24) v img b (omega arith)

  pub blocks-put-header : (img : List ℕ) → apply (blocks_write o at v ∷ []) img ≡ put_field o ufs2_dinode (member "di_blocks") at v img
  unfolding blocks_write put_field
  blocks-put-header img = apply-number o 8 (at + 24) v img

-- the k-th address
module _ (o : Order) (at k v : ℕ) where
  pub address-write : address_write o at k v ≡ number o 8 (at + 112 + k * 8) v
  unfolding address_write
  address-write = refl

  pub address-inside : k < 15 → WriteIn (Range at 256) (address_write o at k v)
  unfolding address_write
  address-inside l = in_record o 8 at (at + 112 + k * 8) v (omega arith) (omega arith)

  pub address-back : (img : List ℕ) → v < 256 ^ 8 → k < 15 → at + 256 ≤ length img → address_at o at k (apply (address_write o at k v ∷ []) img) ≡ v
  unfolding address_at address_write
  address-back img b l h = num-number o 8 (at + 112 + k * 8) v img b (omega arith)

  -- the others are as they were
  pub address-other : (j : ℕ) (img : List ℕ) → (j ≡ k → ⊥) → address_at o at j (apply (address_write o at k v ∷ []) img) ≡ address_at o at j img
  unfolding address_at address_write
  address-other j img n = kept-num o 8 (at + 112 + j * 8) (kept-number o 8 (at + 112 + k * 8) v img) (side (dec_lt j k))
    where
      side : Dec (j < k) → (at + 112 + j * 8 + 8 ≤ at + 112 + k * 8) ⊎ (at + 112 + k * 8 + 8 ≤ at + 112 + j * 8)
      side (yes a) = inl (omega arith)
      side (no a) = inr (omega (arith, n))

  pub address-put-header : (img : List ℕ) → apply (address_write o at k v ∷ []) img ≡ put_field o ufs2_dinode (member "di_db" ! k) at v img
  unfolding address_write put_field
  address-put-header img = apply-number o 8 (at + 112 + k * 8) v img ∙ ap (λ (x : ℕ). put_num o 8 x v img) (omega arith)

pub address-put-indirect_header : (o : Order) (at j v : ℕ) (img : List ℕ) → apply (address_write o at (12 + j) v ∷ []) img ≡ put_field o ufs2_dinode (member "di_ib" ! j) at v img
unfolding address_write put_field
address-put-indirect_header o at j v img = apply-number o 8 (at + 112 + (12 + j) * 8) v img ∙ ap (λ (x : ℕ). put_num o 8 x v img) (omega arith)

-- ---- what a number that is stored leaves as it was

-- the numbers of the record that stand before it or behind it
pub number-other : (o : Order) (at p u v : ℕ) (img : List ℕ) (w q : ℕ) → (q + w ≤ p) ⊎ (p + u ≤ q) → num o w (at + q) (apply (number o u (at + p) v ∷ []) img) ≡ num o w (at + q) img
number-other o at p u v img w q h = kept-num o w (at + q) (kept-number o u (at + p) v img) (⊎_elim (λ l. inl (omega arith)) (λ r. inr (omega arith)) h)

-- the addresses, where it stands before them
pub address_behind : (o : Order) (at p u v : ℕ) (img : List ℕ) (k : ℕ) → p + u ≤ 112 → address_at o at k (apply (number o u (at + p) v ∷ []) img) ≡ address_at o at k img
unfolding address_at
address_behind o at p u v img k h = kept-num o 8 (at + 112 + k * 8) (kept-number o u (at + p) v img) (inr (omega arith))

-- how the data lie, where the number of names or an address is stored
pub shape_nlink : (o : Order) (at v : ℕ) (img : List ℕ) → shape_of o at (apply (nlink_write o at v ∷ []) img) ≡ shape_of o at img
unfolding shape_of nlink_write
shape_nlink o at v img =
    let f : (w q : ℕ) → (q + w ≤ 2) ⊎ (4 ≤ q) → num o w (at + q) (apply (number o 2 (at + 2) v ∷ []) img) ≡ num o w (at + q) img = number-other o at 2 2 v img in
    λ i. record { mode = f 2 0 (inl (omega arith)) i; size = f 8 16 (inr (omega arith)) i; blocks = f 8 24 (inr (omega arith)) i }

pub shape-address : (o : Order) (at k v : ℕ) (img : List ℕ) → shape_of o at (apply (address_write o at k v ∷ []) img) ≡ shape_of o at img
unfolding shape_of address_write
shape-address o at k v img =
    let f : (w q : ℕ) → q + w ≤ 112 → num o w (at + q) (apply (number o 8 (at + 112 + k * 8) v ∷ []) img) ≡ num o w (at + q) img =
    λ w q l. kept-num o w (at + q) (kept-number o 8 (at + 112 + k * 8) v img) (inl (omega arith)) in
    λ i. record { mode = f 2 0 (omega arith) i; size = f 8 16 (omega arith) i; blocks = f 8 24 (omega arith) i }

-- ---- reading

module _ (o : Order) (at : ℕ) (img : List ℕ) where
  pub nlink-header : nlink_at o at img ≡ field_at o ufs2_dinode (member "di_nlink") at img
  unfolding nlink_at field_at
  nlink-header = refl

  pub size-header : size_at o at img ≡ field_at o ufs2_dinode (member "di_size") at img
  unfolding size_at field_at
  size-header = refl

  pub blocks-header : blocks_at o at img ≡ field_at o ufs2_dinode (member "di_blocks") at img
  unfolding blocks_at field_at
  blocks-header = refl

  pub generation-header : generation_at o at img ≡ field_at o ufs2_dinode (member "di_gen") at img
  unfolding generation_at field_at
  generation-header = refl

  pub extsize-header : extsize_at o at img ≡ field_at o ufs2_dinode (member "di_extsize") at img
  unfolding extsize_at field_at
  extsize-header = refl
