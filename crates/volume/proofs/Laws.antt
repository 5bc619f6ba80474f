-- The laws of `specs/Volume.antt`: products that fit, the order of places, and what is written of a count reads back. Assumes nothing.
use mathlib.Core.Path.{◌≡◌, refl, ap, ◌∙◌}
use mathlib.Core.List.{List}
use mathlib.Core.Logic.{◌⊎◌, inl, inr, ⊎_elim}
use Prim.Native.Nat.{ℕ, ◌+◌, ◌-◌, ◌*◌, ◌/◌, ◌%◌, ◌^◌, ◌≤◌, ◌<◌}
use native.Mathlib.Nat.{mul-le-mul, mul-le-mul_right, add-mul, suc-mul, le_trans, div-mul-le_self, div-add-mod'}
use native.Mathlib.Omega.{arith}
use lib.ListN.{length}
use Rattle.field.specs.Field.{num, put_num, Kept}
use Rattle.field.specs.declared.Order.{Order}
use Rattle.field.specs.declared.Order.TheVariants.{Little}
use Rattle.field.proofs.Laws.{length-put_num, num-put_num, kept-put_num, kept-num}
use Rattle.volume.specs.declared.Geometry.{Geometry}
use Rattle.volume.specs.declared.Count.{Count}
use Rattle.volume.specs.declared.Count.TheVariants.{Nbfree, Nifree, Nffree}
use Rattle.volume.specs.Volume.{sb_at, geometry_of, magic_at, byte_at, inode_at, group_magic_at, group_of, count_place, count_at, put_count, total_place, total_at, put_total}

-- ---- products that fit

pub le_product : (a b m n : ℕ) → a ≤ m → b ≤ n → a * b ≤ m * n
le_product a b m n h k = mul-le-mul h k

pub product_fits : {a b : ℕ} → a < 4294967296 → b < 4294967296 → a * b + 8589934590 < 18446744073709551616
product_fits {a} {b} ha hb = omega (arith, le_product a b 4294967295 4294967295 (omega arith) (omega arith))

pub bytes_fit : {a b : ℕ} → a < 4294967296 → b ≤ 65536 → a * b < 281474976710656
bytes_fit {a} {b} ha hb = omega (arith, le_product a b 4294967295 65536 (omega arith) (omega arith))

-- ---- `byte_at`: rising in the fragment, and a group's fragments before the next group's

module _ (geo : Geometry) where
  pub byte_at-eq : (g f : ℕ) → byte_at geo g f ≡ g * geo.fpg * geo.fsize + f * geo.fsize
  unfolding byte_at
  byte_at-eq g f = add-mul (g * geo.fpg) f geo.fsize

  pub byte_at-mono : (g : ℕ) {f x : ℕ} → f ≤ x → byte_at geo g f ≤ byte_at geo g x
  unfolding byte_at
  byte_at-mono g h = mul-le-mul_right geo.fsize (omega arith)

  pub byte_at-next : {g h : ℕ} → g < h → byte_at geo g geo.fpg ≤ byte_at geo h 0
  unfolding byte_at
  byte_at-next {g} {h} l = mul-le-mul_right geo.fsize (omega (arith, suc-mul g geo.fpg, mul-le-mul_right geo.fpg l))

  pub byte_at-add : (g f n : ℕ) → byte_at geo g (f + n) ≡ byte_at geo g f + n * geo.fsize
  unfolding byte_at
  byte_at-add g f n = ap (λ (x : ℕ). x * geo.fsize) (omega arith) ∙ add-mul (g * geo.fpg + f) n geo.fsize

  -- an address is its group and its place there
  pub byte_at-address : (a : ℕ) → byte_at geo (a / geo.fpg) (a % geo.fpg) ≡ a * geo.fsize
  unfolding byte_at
  byte_at-address a = ap (λ (x : ℕ). x * geo.fsize) (div-add-mod' a geo.fpg)

  -- a fragment counted inside the image begins inside it
  pub byte_at-inside : (g f n : ℕ) → g * geo.fpg + f ≤ n / geo.fsize → byte_at geo g f ≤ n
  unfolding byte_at
  byte_at-inside g f n h = le_trans (mul-le-mul_right geo.fsize h) (div-mul-le_self n geo.fsize)

  pub inode_at-eq : (i : ℕ) → inode_at geo i ≡ byte_at geo (i / geo.ipg) geo.iblkno + i % geo.ipg * 256
  unfolding inode_at
  inode_at-eq i = refl

pub geometry_order : (img : List ℕ) → (geometry_of img).order ≡ Little
unfolding geometry_of
geometry_order img = refl

-- ---- the counts of a group record and of the superblock

pub count-place : (c : Count) → (28 ≤ count_place c) × (count_place c + 4 ≤ 40)
unfolding count_place
count-place Nbfree = (omega arith, omega arith)
count-place Nifree = (omega arith, omega arith)
count-place Nffree = (omega arith, omega arith)

pub total-place : (c : Count) → (1016 ≤ total_place c) × (total_place c + 8 ≤ 1040)
unfolding total_place
total-place Nbfree = (omega arith, omega arith)
total-place Nifree = (omega arith, omega arith)
total-place Nffree = (omega arith, omega arith)

-- two counts that are not the same stand apart
pub counts-apart : (c d : Count) → (c ≡ d → ⊥) → (count_place c + 4 ≤ count_place d) ⊎ (count_place d + 4 ≤ count_place c)
unfolding count_place
counts-apart Nbfree Nbfree n = absurd (n refl)
counts-apart Nbfree Nifree n = inl (omega arith)
counts-apart Nbfree Nffree n = inl (omega arith)
counts-apart Nifree Nbfree n = inr (omega arith)
counts-apart Nifree Nifree n = absurd (n refl)
counts-apart Nifree Nffree n = inl (omega arith)
counts-apart Nffree Nbfree n = inr (omega arith)
counts-apart Nffree Nifree n = inr (omega arith)
counts-apart Nffree Nffree n = absurd (n refl)

-- a total stands in the superblock as its count stands in the group: 8 bytes for 4
pub total-count : (c : Count) → total_place c ≡ 1016 + 2 * (count_place c - 28)
unfolding total_place count_place
total-count Nbfree = refl
total-count Nifree = refl
total-count Nffree = refl

module _ (o : Order) (c : Count) (at v : ℕ) (img : List ℕ) where
  pub length-put_count : length (put_count o c at v img) ≡ length img
  unfolding put_count
  length-put_count = length-put_num o 4 (at + count_place c) v img

  pub put_count-is : put_count o c at v img ≡ put_num o 4 (at + count_place c) v img
  unfolding put_count
  put_count-is = refl

  pub kept-put_count : Kept (at + count_place c) 4 img (put_count o c at v img)
  unfolding put_count
  kept-put_count = kept-put_num o 4 (at + count_place c) v img

  pub count-put_count : v < 256 ^ 4 → at + 168 ≤ length img → count_at o c at (put_count o c at v img) ≡ v
  unfolding put_count count_at
  count-put_count b l = let p = count-place c in num-put_num o 4 (at + count_place c) v img b (omega arith)

  -- another count is as it was
  pub count-put_count-other : (d : Count) → (c ≡ d → ⊥) → count_at o d at (put_count o c at v img) ≡ count_at o d at img
  unfolding count_at
  count-put_count-other d n =
      kept-num o 4 (at + count_place d) kept-put_count (⊎_elim (λ l. inr (omega arith)) (λ l. inl (omega arith)) (counts-apart c d n))

module _ (o : Order) (c : Count) (v : ℕ) (img : List ℕ) where
  pub length-put_total : length (put_total o c v img) ≡ length img
  unfolding put_total
  length-put_total = length-put_num o 8 (sb_at + total_place c) v img

  pub put_total-is : put_total o c v img ≡ put_num o 8 (sb_at + total_place c) v img
  unfolding put_total
  put_total-is = refl

  pub kept-put_total : Kept (sb_at + total_place c) 8 img (put_total o c v img)
  unfolding put_total
  kept-put_total = kept-put_num o 8 (sb_at + total_place c) v img

  pub total-put_total : v < 256 ^ 8 → 66912 ≤ length img → total_at o c (put_total o c v img) ≡ v
  unfolding put_total total_at
  total-put_total b l = let p = total-place c in num-put_num o 8 (sb_at + total_place c) v img b (omega arith)

  pub total-put_total-other : (d : Count) → (c ≡ d → ⊥) → total_at o d (put_total o c v img) ≡ total_at o d img
  unfolding total_at
  total-put_total-other d n =
      kept-num o 8 (sb_at + total_place d) kept-put_total
      (⊎_elim (λ l. inr (omega (arith, total-count c, total-count d, count-place c, count-place d))) (λ l. inl (omega (arith, total-count c, total-count d, count-place c, count-place d))) (counts-apart c d n))

-- ---- records outside the bytes that change are as they were

module _ {a n : ℕ} {xs ys : List ℕ} (k : Kept a n xs ys) where
  pub kept-count : (o : Order) (c : Count) (at : ℕ) → (at + count_place c + 4 ≤ a) ⊎ (a + n ≤ at + count_place c) → count_at o c at ys ≡ count_at o c at xs
  unfolding count_at
  kept-count o c at h = kept-num o 4 (at + count_place c) k h

  pub kept-total : (o : Order) (c : Count) → (sb_at + total_place c + 8 ≤ a) ⊎ (a + n ≤ sb_at + total_place c) → total_at o c ys ≡ total_at o c xs
  unfolding total_at
  kept-total o c h = kept-num o 8 (sb_at + total_place c) k h

  pub kept-magic : (o : Order) (at : ℕ) → (at + 1372 + 4 ≤ a) ⊎ (a + n ≤ at + 1372) → magic_at o at ys ≡ magic_at o at xs
  unfolding magic_at
  kept-magic o at h = kept-num o 4 (at + 1372) k h

  pub kept-group-magic : (o : Order) (at : ℕ) → (at + 4 + 4 ≤ a) ⊎ (a + n ≤ at + 4) → group_magic_at o at ys ≡ group_magic_at o at xs
  unfolding group_magic_at
  kept-group-magic o at h = kept-num o 4 (at + 4) k h

  -- of the superblock the geometry reads bytes 8 to 191, of a group record the fixed part 20 to 23 and 92 to 99
  pub kept-geometry : (sb_at + 192 ≤ a) ⊎ (a + n ≤ sb_at + 8) → geometry_of ys ≡ geometry_of xs
  unfolding geometry_of
  kept-geometry h =
      let f : (j : ℕ) → 8 ≤ j → j + 4 ≤ 192 → num Little 4 (sb_at + j) ys ≡ num Little 4 (sb_at + j) xs =
      λ j l r. kept-num Little 4 (sb_at + j) k (⊎_elim (λ x. inl (omega arith)) (λ x. inr (omega arith)) h) in
      λ i. record {
        order = Little;
        sblkno = f 8 (omega arith) (omega arith) i;
        cblkno = f 12 (omega arith) (omega arith) i;
        iblkno = f 16 (omega arith) (omega arith) i;
        dblkno = f 20 (omega arith) (omega arith) i;
        ncg = f 44 (omega arith) (omega arith) i;
        bsize = f 48 (omega arith) (omega arith) i;
        fsize = f 52 (omega arith) (omega arith) i;
        frag = f 56 (omega arith) (omega arith) i;
        ipg = f 184 (omega arith) (omega arith) i;
        fpg = f 188 (omega arith) (omega arith) i;
      }

  pub kept-group : (o : Order) (at : ℕ) → (at + 24 ≤ a) ⊎ (a + n ≤ at + 20) → (at + 100 ≤ a) ⊎ (a + n ≤ at + 92) → group_of o at ys ≡ group_of o at xs
  unfolding group_of
  kept-group o at h w =
      λ i. record {
        ndblk = kept-num o 4 (at + 20) k (⊎_elim (λ x. inl (omega arith)) (λ x. inr (omega arith)) h) i;
        iusedoff = kept-num o 4 (at + 92) k (⊎_elim (λ x. inl (omega arith)) (λ x. inr (omega arith)) w) i;
        freeoff = kept-num o 4 (at + 96) k (⊎_elim (λ x. inl (omega arith)) (λ x. inr (omega arith)) w) i;
      }

-- ---- the fields as plain numbers, and two images in which those of a group record are the same

module _ (o : Order) (at : ℕ) (img : List ℕ) where
  pub magic-is : magic_at o at img ≡ num o 4 (at + 1372) img
  unfolding magic_at
  magic-is = refl

  pub group-magic-is : group_magic_at o at img ≡ num o 4 (at + 4) img
  unfolding group_magic_at
  group-magic-is = refl

  pub count-is : (c : Count) → count_at o c at img ≡ num o 4 (at + count_place c) img
  unfolding count_at
  count-is c = refl

pub total-is : (o : Order) (c : Count) (img : List ℕ) → total_at o c img ≡ num o 8 (sb_at + total_place c) img
unfolding total_at
total-is o c img = refl

pub group-same : (o : Order) (at : ℕ) (xs ys : List ℕ) → num o 4 (at + 20) ys ≡ num o 4 (at + 20) xs → num o 4 (at + 92) ys ≡ num o 4 (at + 92) xs
    → num o 4 (at + 96) ys ≡ num o 4 (at + 96) xs → group_of o at ys ≡ group_of o at xs
unfolding group_of
group-same o at xs ys ndblk iusedoff freeoff = λ i. record { ndblk = ndblk i; iusedoff = iusedoff i; freeoff = freeoff i }
