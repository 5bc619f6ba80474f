-- 01, "Inodes and mapping": a file's size in blocks and fragments. Assumes nothing: these are definitions.
use Rattle.std.specs.Prelude.{Bool, true, false, ℕ, ◌+◌, ◌-◌, ◌*◌, ◌/◌, ◌%◌, ltb, Option, Some, None}
use Rattle.volume.specs.declared.Geometry.{Geometry}
use Rattle.inode.specs.declared.Extent.{Extent}

-- "With size s: blocks = s / bsize, frags = (s % bsize) / fsize rounded up"
unfoldable pub size_in : ℕ → ℕ → ℕ → Extent
size_in bs fs s = record { blocks = s / bs; frags = (s % bs + (fs - 1)) / fs }

abbrev pub extent_of : Geometry → ℕ → Extent
extent_of geo s = size_in geo.bsize geo.fsize s

-- the one where the test holds, else the other
abbrev pub pick : {A : Type 0} → Bool → A → A → A
pick true a b = a
pick false a b = b

-- how many bytes the block at index i of a file of size s holds: "answers for indexes below blocks + frags, as the Rust; only index blocks is a real tail"
unfoldable pub held_at : Geometry → ℕ → ℕ → Option ℕ
held_at geo s i =
    pick (ltb i (extent_of geo s).blocks) (Some geo.bsize)
    (pick (ltb i ((extent_of geo s).blocks + (extent_of geo s).frags)) (Some ((extent_of geo s).frags * geo.fsize))
    None)
