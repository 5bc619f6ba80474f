-- 01, "Inodes and mapping" and "Traps": giving back the blocks past a file's new end. Assumes nothing: these are definitions.
use Rattle.std.specs.Prelude.{Bool, true, false, List, [], ◌∷◌, ◌++◌, ℕ, zero, suc, ◌+◌, ◌-◌, ◌*◌, ◌/◌, ◌%◌, ◌≡◌, ◌≤◌, length, eqb, ltb}
use Rattle.field.specs.Field.{num, part, zeros}
use Rattle.field.specs.declared.Order.{Order}
use Rattle.refusal.specs.declared.Refusal.TheVariants.{Damaged}
use Rattle.store.specs.Store.{Write, Store}
use Rattle.store.specs.Act.{Out, got, refused, Act, pure, refuse, reads, store, ◌>>=◌, choose, each}
use Rattle.volume.specs.declared.Geometry.{Geometry}
use Rattle.inode.specs.declared.Shape.{Shape}
use Rattle.inode.specs.declared.Extent.{Extent}
use Rattle.inode.specs.Size.{pick, extent_of}
use Rattle.inode.specs.Shape.{address_at}
use Rattle.inode.specs.Places.{size_write, blocks_write}
use Rattle.mapping.specs.Zones.{zone_start}
use Rattle.mapping.specs.Mapping.{entry_width, per_list, entry_at}
use Rattle.ialloc_tree.specs.Tree.{on_list, at_entry, free_tree}

-- ---- a list of which the first addresses stay

-- the addresses from place u on: each block at the file's own index, of which the list's first is `base`
unfoldable pub free_rest : Geometry → Shape → ℕ → ℕ → ℕ → ℕ → Act ℕ
free_rest geo s a base u held = each (at_entry (λ e i h. free_tree geo s 0 e (base + i) h) geo a) (per_list geo - u) u held

-- those places made 0
unfoldable pub rest_write : Geometry → ℕ → ℕ → Write
rest_write geo a u = record { at = a * geo.fsize + u * entry_width geo; bytes = zeros ((per_list geo - u) * entry_width geo) }

-- "a zero list address reads as zeros, never stored"
unfoldable pub shrink_list : Geometry → Shape → ℕ → ℕ → ℕ → ℕ → Act ℕ
shrink_list geo s a base u held =
    choose (eqb a 0) (pure held)
    (on_list geo a (free_rest geo s a base u held >>= (λ h. store (rest_write geo a u ∷ []) >>= (λ _. pure h))))

-- ---- a list of lists of which the first stay, the last of these in part; the Rust keeps the root in memory: as it was in the image `before`

-- the lists at the addresses from place u on
unfoldable pub free_lists : Geometry → Shape → (ℕ → ℕ) → ℕ → ℕ → Act ℕ
free_lists geo s address u held = each (λ i h. free_tree geo s 1 (address i) i h) (per_list geo - u) u held

-- address i of a list's bytes
unfoldable pub entry_in : Geometry → List ℕ → ℕ → ℕ
entry_in geo root i = num geo.order (entry_width geo) (i * entry_width geo) root

-- the root as it was, with those places made 0
unfoldable pub root_write : Geometry → List ℕ → ℕ → ℕ → Write
root_write geo before a u =
    record { at = a * geo.fsize; bytes = part (u * entry_width geo) (a * geo.fsize) before ++ zeros ((per_list geo - u) * entry_width geo) }

-- the lists before place `high` of the root stay, and of that one, which begins at the file's index `first`, the first `low` addresses
unfoldable pub shrink_from : Geometry → Shape → ℕ → ℕ → ℕ → ℕ → ℕ → List ℕ → Act ℕ
shrink_from geo s a first high low held before =
    shrink_list geo s (entry_at geo before a high) first low held
    >>= (λ h. free_lists geo s (entry_at geo before a) (high + 1) h
    >>= (λ h. store (root_write geo before a (high + 1) ∷ []) >>= (λ _. pure h)))

-- u blocks of the zone, which begins at `base`, stay
unfoldable pub shrink_lists : Geometry → Shape → ℕ → ℕ → ℕ → ℕ → Act ℕ
shrink_lists geo s a base u held =
    choose (eqb a 0) (pure held)
    (on_list geo a (λ img. shrink_from geo s a (base + u / per_list geo * per_list geo) (u / per_list geo) (u % per_list geo) held img img))

-- what the code has at hand: the bytes of the list at a, from the image as it was
pub record Copied (geo : Geometry) (img : List ℕ) (a : ℕ) (root : List ℕ) : Type 0 where
  pub room : geo.bsize ≤ length root
  pub bytes : part geo.bsize 0 root ≡ part geo.bsize (a * geo.fsize) img
