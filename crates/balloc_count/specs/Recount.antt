-- The recount: a fresh count of each group's map, and the stores that write it. Assumes nothing: these are definitions.
use Rattle.std.specs.Prelude.{◌≡◌, List, [], ◌∷◌, ◌++◌, ◌⊎◌, ℕ, zero, suc, ◌+◌, ◌/◌, ◌<◌}
use Rattle.store.specs.Store.{Store}
use Rattle.store.specs.Where.{Range}
use Rattle.store.specs.Act.{Act, got}
use Rattle.volume.specs.declared.Geometry.{Geometry}
use Rattle.volume.specs.declared.Count.{Count}
use Rattle.volume.specs.declared.Count.TheVariants.{Nbfree, Nffree}
use Rattle.volume.specs.Volume.{sb_at, cg_at, count_place, count_at, total_place, total_at}
use Rattle.bits.specs.Upto.{sum}
use Rattle.bits.specs.Bits.{free_blocks, free_frags, loose_frags}
use Rattle.sound.specs.Sound.{group_at, free_at}
use Rattle.frame.specs.Writes.{count_write, total_write}
use Rattle.balloc_count.specs.declared.Fresh.{Fresh}

-- ---- the fresh count

-- 01: "nbfree is the number of aligned wholly free blocks inside ndblk"
unfoldable pub blocks_of : Geometry → ℕ → List ℕ → ℕ
blocks_of geo g img = free_blocks geo.frag img (free_at geo g img) ((group_at geo g img).ndblk / geo.frag)

-- 01: "nffree the free fragments not in such a block"
unfoldable pub loose_of : Geometry → ℕ → List ℕ → ℕ
loose_of geo g img = loose_frags geo.frag img (free_at geo g img) (group_at geo g img).ndblk ((group_at geo g img).ndblk / geo.frag)

-- 01: "1 is free": the free fragments of a group
unfoldable pub free_of : Geometry → ℕ → List ℕ → ℕ
free_of geo g img = free_frags img (free_at geo g img) (group_at geo g img).ndblk

-- 01: "the totals are the sums": of the free blocks, of the free fragments in none of these, and of all free fragments
unfoldable pub total_blocks : Geometry → List ℕ → ℕ
total_blocks geo img = sum (λ (g : ℕ). blocks_of geo g img) geo.ncg

unfoldable pub total_loose : Geometry → List ℕ → ℕ
total_loose geo img = sum (λ (g : ℕ). loose_of geo g img) geo.ncg

unfoldable pub total_free : Geometry → List ℕ → ℕ
total_free geo img = sum (λ (g : ℕ). free_of geo g img) geo.ncg

-- 01: counts "are true when a group's nbfree is the number of .. free blocks .., nffree the free fragments not in such a block, and the totals are the sums"
pub record TrueCounts (geo : Geometry) (img : List ℕ) : Type 0 where
  pub nbfree : (g : ℕ) → g < geo.ncg → count_at geo.order Nbfree (cg_at geo g) img ≡ blocks_of geo g img
  pub nffree : (g : ℕ) → g < geo.ncg → count_at geo.order Nffree (cg_at geo g) img ≡ loose_of geo g img
  pub total_nbfree : total_at geo.order Nbfree img ≡ total_blocks geo img
  pub total_nffree : total_at geo.order Nffree img ≡ total_loose geo img

-- ---- the stores

-- 01: the recount "writes nbfree and nffree of each group .. from the map"; "each writing its named fields together"
unfoldable pub group_store : Geometry → ℕ → List ℕ → Store
group_store geo g img = count_write geo g Nbfree (blocks_of geo g img) ∷ count_write geo g Nffree (loose_of geo g img) ∷ []

-- those of the groups below n
unfoldable pub group_stores : Geometry → List ℕ → ℕ → List Store
group_stores geo img zero = []
group_stores geo img (suc g) = group_stores geo img g ++ group_store geo g img ∷ []

-- 01: "and the two totals"
unfoldable pub total_store : Geometry → List ℕ → Store
total_store geo img = total_write geo Nbfree (total_blocks geo img) ∷ total_write geo Nffree (total_loose geo img) ∷ []

unfoldable pub recount_stores : Geometry → List ℕ → List Store
recount_stores geo img = group_stores geo img geo.ncg ++ total_store geo img ∷ []

-- the whole recount, which answers the two totals
unfoldable pub recount_all : Geometry → Act Fresh
recount_all geo img = record { stores = recount_stores geo img; out = got (record { nbfree = total_blocks geo img; nffree = total_loose geo img }) }

-- ---- the bytes that it writes

-- 01: "nbfree and nffree", and not nifree
abbrev pub Recounted : Count → Type 0
Recounted c = (c ≡ Nbfree) ⊎ (c ≡ Nffree)

-- byte j is one "of each group and the two totals"
pub data CountByte (geo : Geometry) (j : ℕ) : Type 0 where
  of_group : (g : ℕ) (c : Count) → g < geo.ncg → Recounted c → Range (cg_at geo g + count_place c) 4 j → CountByte geo j
  of_totals : (c : Count) → Recounted c → Range (sb_at + total_place c) 8 j → CountByte geo j
