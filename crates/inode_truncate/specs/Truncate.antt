-- 01, "Inodes and mapping": a file's blocks past its new end given back, zone by zone, and its record. Assumes nothing: these are definitions.
use Rattle.std.specs.Prelude.{Bool, true, false, List, [], ◌∷◌, ◌++◌, ℕ, zero, suc, ◌+◌, ◌-◌, ◌*◌, ◌/◌, ◌%◌, ◌≡◌, ◌≤◌, length, eqb, ltb, Result, Ok, Err}
use Rattle.field.specs.Field.{num, part, zeros}
use Rattle.field.specs.declared.Order.{Order}
use Rattle.refusal.specs.declared.Refusal.TheVariants.{Damaged}
use Rattle.store.specs.Store.{Write, Store}
use Rattle.store.specs.Act.{Out, got, refused, Act, pure, refuse, reads, store, ◌>>=◌, choose, each}
use Rattle.volume.specs.declared.Geometry.{Geometry}
use Rattle.inode.specs.declared.Shape.{Shape}
use Rattle.inode.specs.declared.Extent.{Extent}
use Rattle.inode.specs.Size.{pick, extent_of}
use Rattle.inode.specs.Shape.{address_at}
use Rattle.inode.specs.Places.{size_write, blocks_write}
use Rattle.mapping.specs.Zones.{zone_start}
use Rattle.mapping.specs.Mapping.{entry_width, per_list, entry_at}
use Rattle.ialloc_tree.specs.Tree.{free_tree}
use Rattle.inode_shrink.specs.Shrink.{shrink_list, shrink_lists}
use Rattle.refusal.specs.declared.Refusal.{Refusal}

-- how many blocks a file of that size keeps: its whole blocks, and the tail
unfoldable pub keep_of : Geometry → ℕ → ℕ
keep_of geo s = (extent_of geo s).blocks + pick (ltb 0 (extent_of geo s).frags) 1 0

-- ---- the zones, the last first

-- f of the k-th address of the record at `at`
unfoldable pub at_address : {A : Type 0} → Geometry → ℕ → ℕ → (ℕ → Act A) → Act A
at_address geo at k f = λ img. f (address_at geo.order at k img) img

-- the direct addresses from keep on
unfoldable pub shrink_direct : Geometry → ℕ → Shape → ℕ → ℕ → Act ℕ
shrink_direct geo at s keep held = each (λ i h. at_address geo at i (λ a. free_tree geo s 0 a i h)) (12 - keep) keep held

-- the first zone, and the direct addresses where it goes whole
unfoldable pub shrink_low : Geometry → ℕ → Shape → ℕ → ℕ → Act ℕ
shrink_low geo at s keep held =
    choose (ltb keep (zone_start (per_list geo) 1))
    (at_address geo at 12 (λ a. free_tree geo s 1 a 0 held) >>= shrink_direct geo at s keep)
    (at_address geo at 12 (λ a. shrink_list geo s a (zone_start (per_list geo) 1) (keep - zone_start (per_list geo) 1) held))

-- the second zone, and what lies below where it goes whole
unfoldable pub shrink_mid : Geometry → ℕ → Shape → ℕ → ℕ → Act ℕ
shrink_mid geo at s keep held =
    choose (ltb keep (zone_start (per_list geo) 2))
    (at_address geo at 13 (λ a. free_tree geo s 2 a 0 held) >>= shrink_low geo at s keep)
    (at_address geo at 13 (λ a. shrink_lists geo s a (zone_start (per_list geo) 2) (keep - zone_start (per_list geo) 2) held))

-- the blocks past the first `keep`, and how many units of 512 bytes are then held
unfoldable pub shrink : Geometry → ℕ → Shape → ℕ → Act ℕ
shrink geo at s keep = at_address geo at 14 (λ a. free_tree geo s 3 a 0 s.blocks) >>= shrink_mid geo at s keep

-- ---- the record then

-- the first of the 15 addresses that leads nowhere any more
unfoldable pub first_gone : Geometry → ℕ → ℕ
first_gone geo keep = pick (ltb keep (zone_start (per_list geo) 1)) keep (pick (ltb keep (zone_start (per_list geo) 2)) 13 14)

unfoldable pub gone_write : ℕ → ℕ → Write
gone_write at k = record { at = at + 112 + k * 8; bytes = zeros ((15 - k) * 8) }

-- size, blocks and addresses together
unfoldable pub shrunk_store : Geometry → ℕ → ℕ → ℕ → Store
shrunk_store geo at new held = size_write geo.order at new ∷ blocks_write geo.order at held ∷ gone_write at (first_gone geo (keep_of geo new)) ∷ []

-- inode_truncate's work
unfoldable pub truncate_work : Geometry → ℕ → Shape → ℕ → Act (Unit {0})
truncate_work geo at s new =
    choose (ltb new s.size)
    (shrink geo at s (keep_of geo new) >>= (λ h. store (shrunk_store geo at new h)))
    (store (size_write geo.order at new ∷ []))

-- the code's answer
abbrev pub truncated_out : Result (Unit {0}) Refusal → Out (Unit {0})
truncated_out (Ok u) = got (tt {0})
truncated_out (Err e) = refused e
