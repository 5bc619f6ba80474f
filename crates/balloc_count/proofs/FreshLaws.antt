-- The laws of the fresh counts: what they are of a group that was read, what they hang on, how large they are, and their sums. Assumes nothing.
use mathlib.Core.Path.{◌≡◌, refl, sym, ◌∙◌}
use mathlib.Core.List.{List}
use Prim.Native.Nat.{ℕ, zero, suc, ◌+◌, ◌-◌, ◌*◌, ◌/◌, ◌≤◌, ◌<◌}
use native.Mathlib.Nat.{mul_comm, mul-div-le, div-le_self, div-le_of_le-mul}
use native.Mathlib.Numerals.{add-one}
use native.Mathlib.Omega.{arith}
use lib.ListN.{length}
use Rattle.volume.specs.declared.Geometry.{Geometry}
use Rattle.volume.proofs.Laws.{le_product}
use Rattle.bits.specs.Upto.{sum}
use Rattle.bits.specs.Bits.{bit_at, free_blocks, free_frags}
use Rattle.bits.proofs.UptoLaws.{sum-none, sum-more, sum-same, sum_le, sum-joined}
use Rattle.bits.proofs.BitsLaws.{frag-some}
use Rattle.bits.proofs.CountLaws.{blocks-le, frags-le, loose-sum}
use Rattle.bits.proofs.ChangeLaws.{blocks-same, frags-same, loose_same}
use Rattle.sound.specs.Sound.{group_at, free_at}
use Rattle.frame.specs.Frame.{Frame}
use Rattle.balloc_count.specs.Recount.{blocks_of, loose_of, free_of, total_blocks, total_loose, total_free}

-- ---- the sums

pub total-blocks-is : (geo : Geometry) (img : List ℕ) → total_blocks geo img ≡ sum (λ (g : ℕ). blocks_of geo g img) geo.ncg
unfolding total_blocks
total-blocks-is geo img = refl

pub total-loose-is : (geo : Geometry) (img : List ℕ) → total_loose geo img ≡ sum (λ (g : ℕ). loose_of geo g img) geo.ncg
unfolding total_loose
total-loose-is geo img = refl

-- ---- one group

module _ (geo : Geometry) (g : ℕ) (img : List ℕ) (fr : Frame geo img) where
  whole : geo.frag * ((group_at geo g img).ndblk / geo.frag) ≤ (group_at geo g img).ndblk
  whole = mul-div-le (group_at geo g img).ndblk geo.frag

  -- the free fragments are those of free blocks and the loose ones
  pub free-joined : loose_of geo g img + geo.frag * blocks_of geo g img ≡ free_of geo g img
  unfolding blocks_of loose_of free_of
  free-joined = loose-sum geo.frag img (free_at geo g img) ((group_at geo g img).ndblk / geo.frag) (frag-some geo.frag fr.sizes.frag) (group_at geo g img).ndblk whole

  pub blocks-within : blocks_of geo g img ≤ (group_at geo g img).ndblk
  unfolding blocks_of
  blocks-within = omega (arith, blocks-le geo.frag img (free_at geo g img) ((group_at geo g img).ndblk / geo.frag), div-le_self (group_at geo g img).ndblk geo.frag)

  pub loose-within : loose_of geo g img ≤ (group_at geo g img).ndblk
  unfolding free_of
  loose-within = omega (arith, free-joined, frags-le img (free_at geo g img) (group_at geo g img).ndblk)

  -- what one pass counts of the group's map, and what is then left of the fragments
  pub counted : {at n b f : ℕ} → at ≡ free_at geo g img → n ≡ (group_at geo g img).ndblk → b ≡ free_blocks geo.frag img at (n / geo.frag) → f ≡ free_frags img at n
      → (b ≡ blocks_of geo g img) × (f ≡ loose_of geo g img + geo.frag * b)
  unfolding blocks_of free_of
  counted {at} {n} {b} {f} ea en eb ef =
      let e : b ≡ blocks_of geo g img = rw (ea, en) at eb in
      let w : f ≡ free_of geo g img = rw (ea, en) at ef in
      (e, rw e (w ∙ sym free-joined))

-- two images with one record of the group and one map
module _ (geo : Geometry) (g : ℕ) (xs ys : List ℕ) (fr : Frame geo xs) (group : group_at geo g ys ≡ group_at geo g xs)
    (bits : (f : ℕ) → f < (group_at geo g xs).ndblk → bit_at ys (free_at geo g xs) f ≡ bit_at xs (free_at geo g xs) f) where
  pub blocks-agree : blocks_of geo g ys ≡ blocks_of geo g xs
  unfolding blocks_of
  blocks-agree = rw group (blocks-same xs ys (free_at geo g xs) (group_at geo g xs).ndblk bits geo.frag ((group_at geo g xs).ndblk / geo.frag) (whole geo g xs fr))

  pub loose-agree : loose_of geo g ys ≡ loose_of geo g xs
  unfolding loose_of
  loose-agree = rw group (loose_same xs ys (free_at geo g xs) (group_at geo g xs).ndblk bits geo.frag ((group_at geo g xs).ndblk / geo.frag) fr.sizes.frag (whole geo g xs fr))

  pub free-agree : free_of geo g ys ≡ free_of geo g xs
  unfolding free_of
  free-agree = rw group (frags-same xs ys (free_at geo g xs) (group_at geo g xs).ndblk bits)

-- ---- all groups

-- totals of two images whose groups have the same counts
module _ (geo : Geometry) (xs ys : List ℕ) where
  pub total-blocks-agree : ((g : ℕ) → g < geo.ncg → blocks_of geo g ys ≡ blocks_of geo g xs) → total_blocks geo ys ≡ total_blocks geo xs
  unfolding total_blocks
  total-blocks-agree e = sum-same _ _ geo.ncg e

  pub total-loose-agree : ((g : ℕ) → g < geo.ncg → loose_of geo g ys ≡ loose_of geo g xs) → total_loose geo ys ≡ total_loose geo xs
  unfolding total_loose
  total-loose-agree e = sum-same _ _ geo.ncg e

  pub total-free-agree : ((g : ℕ) → g < geo.ncg → free_of geo g ys ≡ free_of geo g xs) → total_free geo ys ≡ total_free geo xs
  unfolding total_free
  total-free-agree e = sum-same _ _ geo.ncg e

module _ (geo : Geometry) (img : List ℕ) (fr : Frame geo img) where
  -- an image of at most 2^30 bytes holds at most 2^21 fragments of 512 bytes or more
  image-frags : length img / geo.fsize ≤ 2097152
  image-frags =
      let p = le_product 512 2097152 geo.fsize 2097152 fr.laid.unit (omega arith) in
      let l = fr.laid.high in
      div-le_of_le-mul geo.fsize (omega arith)

  -- a count of fragments that each group's size bounds
  module _ (f : ℕ → ℕ) (within : (g : ℕ) → g < geo.ncg → f g ≤ (group_at geo g img).ndblk) where
    count_small : (g : ℕ) → g < geo.ncg → f g ≤ 2097152
    count_small g l = omega (arith, within g l, (fr.head g l).inside, image-frags)

    sum-small : (n : ℕ) → n ≤ geo.ncg → sum f n ≤ 2097152
    sum-small zero l = omega (arith, sum-none f)
    sum-small (suc n) l =
        rw (← (add-one n))
        (omega (
          arith,
          sum-more f n,
          sum_le f geo.fpg n (λ g u. omega (arith, within g (omega arith), (fr.head g (omega arith)).span)),
          mul_comm n geo.fpg,
          within n (omega arith),
          (fr.head n (omega arith)).inside,
          image-frags,
        ))

  pub blocks-small : (g : ℕ) → g < geo.ncg → blocks_of geo g img ≤ 2097152
  blocks-small = count_small (λ (g : ℕ). blocks_of geo g img) (λ g l. blocks-within geo g img fr)

  pub loose-small : (g : ℕ) → g < geo.ncg → loose_of geo g img ≤ 2097152
  loose-small = count_small (λ (g : ℕ). loose_of geo g img) (λ g l. loose-within geo g img fr)

  pub blocks-sum-small : (n : ℕ) → n ≤ geo.ncg → sum (λ (g : ℕ). blocks_of geo g img) n ≤ 2097152
  blocks-sum-small = sum-small (λ (g : ℕ). blocks_of geo g img) (λ g l. blocks-within geo g img fr)

  pub loose-sum-small : (n : ℕ) → n ≤ geo.ncg → sum (λ (g : ℕ). loose_of geo g img) n ≤ 2097152
  loose-sum-small = sum-small (λ (g : ℕ). loose_of geo g img) (λ g l. loose-within geo g img fr)

  pub total-blocks-small : total_blocks geo img ≤ 2097152
  unfolding total_blocks
  total-blocks-small = blocks-sum-small geo.ncg (omega arith)

  pub total-loose-small : total_loose geo img ≤ 2097152
  unfolding total_loose
  total-loose-small = loose-sum-small geo.ncg (omega arith)

  -- the free fragments of the volume
  pub total-joined : total_loose geo img + geo.frag * total_blocks geo img ≡ total_free geo img
  unfolding total_loose total_blocks total_free
  total-joined = sum-joined (λ (g : ℕ). loose_of geo g img) (λ (g : ℕ). blocks_of geo g img) (λ (g : ℕ). free_of geo g img) geo.frag geo.ncg (λ g l. free-joined geo g img fr)
