-- 01, "Giving out and taking back blocks": giving out. Assumes nothing: these are definitions.
use Rattle.std.specs.Prelude.{◌≡◌, ℕ, zero, suc, ◌+◌, ◌*◌, ◌/◌, ◌%◌, ◌≤◌, Bool, true, false, ◌&&◌, List, [], ◌∷◌, length, nat_lt, Option, Some, None, Result, Ok, Err}
use Rattle.refusal.specs.declared.Refusal.{Refusal}
use Rattle.refusal.specs.declared.Refusal.TheVariants.{NoSpace}
use Rattle.field.specs.Field.{zeros}
use Rattle.store.specs.Store.{Write, Store, number}
use Rattle.store.specs.Act.{Out, got, refused, Run, Act, pure, store, ◌>>=◌, ◌>>◌}
use Rattle.volume.specs.declared.Geometry.{Geometry}
use Rattle.volume.specs.declared.Count.TheVariants.{Nbfree}
use Rattle.volume.specs.Volume.{cg_at, count_at, total_at}
use Rattle.bits.specs.Upto.{pick_found}
use Rattle.bits.specs.Bits.{first_free}
use Rattle.sound.specs.Sound.{group_at, free_at}
use Rattle.frame.specs.Writes.{map_write, count_write, total_write, down}
use Rattle.balloc_give.specs.declared.Giving.{Giving}
use Rattle.volume.specs.declared.FragNum.{FragNum}

-- a signed count above zero
unfoldable pub positive : ℕ → Bool
positive x = nat_lt 0 x && nat_lt x 2147483648

-- the whole blocks of group g
unfoldable pub blocks_in : Geometry → ℕ → List ℕ → ℕ
blocks_in geo g img = (group_at geo g img).ndblk / geo.frag

-- "passes groups with nbfree <= 0, and takes the first block whose bits are all 1", of one group
unfoldable pub in_group : Geometry → List ℕ → ℕ → Option ℕ
in_group geo img g =
    pick_found (positive (count_at geo.order Nbfree (cg_at geo g) img))
    (first_free geo.frag img (free_at geo g img) (blocks_in geo g img))
    None

abbrev pub or_else : ℕ → Option ℕ → Option (ℕ × ℕ) → Option (ℕ × ℕ)
or_else g (Some h) c = Some (g, h)
or_else g None c = c

-- "Giving out scans groups upward": the m groups from g on
unfoldable pub choose_from : Geometry → List ℕ → ℕ → ℕ → Option (ℕ × ℕ)
choose_from geo img g zero = None
choose_from geo img g (suc m) = or_else g (in_group geo img g) (choose_from geo img (g + 1) m)

unfoldable pub chosen : Geometry → List ℕ → Option (ℕ × ℕ)
chosen geo img = choose_from geo img 0 geo.ncg

-- the address of block h of group g
unfoldable pub block_address : Geometry → ℕ → ℕ → ℕ
block_address geo g h = g * geo.fpg + geo.frag * h

-- "block given: map byte; group nbfree; total nbfree"
unfoldable pub give_stores : Geometry → List ℕ → ℕ → ℕ → List Store
give_stores geo img g h =
    (map_write 0 geo g (geo.frag * h) geo.frag img ∷ [])
    ∷ (count_write geo g Nbfree (down 4 (count_at geo.order Nbfree (cg_at geo g) img) 1) ∷ [])
    ∷ (total_write geo Nbfree (down 8 (total_at geo.order Nbfree img) 1) ∷ [])
    ∷ []

abbrev pub giving : Geometry → List ℕ → Option (ℕ × ℕ) → Run ℕ
giving geo img None = record { stores = []; out = refused NoSpace }
giving geo img (Some (g, h)) = record { stores = give_stores geo img g h; out = got (block_address geo g h) }

-- a block given, or "28: no block"
unfoldable pub give_block : Geometry → Act ℕ
give_block geo img = giving geo img (chosen geo img)

-- blk_alloc_full_zeroed: then bsize zeros at the block
unfoldable pub zero_write : Geometry → ℕ → Write
zero_write geo a = record { at = a * geo.fsize; bytes = zeros geo.bsize }

unfoldable pub give_zeroed : Geometry → Act ℕ
give_zeroed geo = do
  a ← give_block geo
  store (zero_write geo a ∷ [])
  pure a

-- the code's answer as one of these
abbrev pub gave_out : Result (FragNum × ℕ) Refusal → Out ℕ
gave_out (Ok (a, n)) = got a.0
gave_out (Err e) = refused e

abbrev pub zeroed_out : Result FragNum Refusal → Out ℕ
zeroed_out (Ok a) = got a.0
zeroed_out (Err e) = refused e

abbrev pub gave_made : Result (FragNum × ℕ) Refusal → ℕ
gave_made (Ok (a, n)) = n
gave_made (Err e) = 0

-- what the code computes before its first store
pub record Values (geo : Geometry) (img : List ℕ) (g h : ℕ) (r : Giving) : Type 0 where
  pub map : map_write 0 geo g (geo.frag * h) geo.frag img ≡ number geo.order 1 r.place r.byte
  pub room : r.place + 1 ≤ length img
  pub count : r.count ≡ down 4 (count_at geo.order Nbfree (cg_at geo g) img) 1
  pub total : r.total ≡ down 8 (total_at geo.order Nbfree img) 1
