-- 01, "Inodes and mapping": the run of fragments that a block of a file is, and the file's bytes by it. Assumes nothing: these are definitions.
use Rattle.std.specs.Prelude.{Bool, true, false, List, [], ◌∷◌, ℕ, zero, suc, ◌+◌, ◌*◌, ◌/◌, ◌%◌, get_or, Option, Some, None}
use Rattle.volume.specs.declared.Geometry.{Geometry}
use Rattle.frame.specs.Frame.{run_okb}
use Rattle.inode.specs.Size.{pick, held_at}
use Rattle.mapping.specs.declared.Mapped.{Mapped}
use Rattle.mapping.specs.Mapping.{mapped}
use Rattle.inode_run.specs.declared.Run.{Run}
use Rattle.inode_run.specs.declared.Run.TheVariants.{At, Hole, Past, Bad}

-- "A run that touches a reserved fragment or is not within one group's ndblk is 97"
abbrev pub run_for : Geometry → List ℕ → Option ℕ → Mapped → Run
run_for geo img None m = Past
run_for geo img (Some n) (Mapped.At a) = pick (run_okb geo img a.0 (n / geo.fsize)) (At a n) Bad
run_for geo img (Some n) Mapped.Hole = Hole n
run_for geo img (Some n) Mapped.Bad = Bad
run_for geo img (Some n) Mapped.Past = Bad

-- the block at index i of a file of that size, whose record is at `at`: the run and how many bytes it holds
unfoldable pub run_at : Geometry → ℕ → ℕ → List ℕ → ℕ → Run
run_at geo at size img i = run_for geo img (held_at geo size i) (mapped geo at img i)

abbrev pub readable : Run → Bool
readable (At a n) = true
readable (Hole n) = true
readable Past = false
readable Bad = false

-- byte k of a block: "A zero address at any level is a hole, read as zeros"
abbrev pub byte_in : Geometry → List ℕ → Run → ℕ → ℕ
byte_in geo img (At a n) k = get_or img (a.0 * geo.fsize + k) 0
byte_in geo img (Hole n) k = 0
byte_in geo img Past k = 0
byte_in geo img Bad k = 0

-- the file's byte at offset x
unfoldable pub file_byte : Geometry → ℕ → ℕ → List ℕ → ℕ → ℕ
file_byte geo at size img x = byte_in geo img (run_at geo at size img (x / geo.bsize)) (x % geo.bsize)

-- its n bytes from offset x on
unfoldable pub file_bytes : Geometry → ℕ → ℕ → List ℕ → ℕ → ℕ → List ℕ
file_bytes geo at size img x zero = []
file_bytes geo at size img x (suc n) = file_byte geo at size img x ∷ file_bytes geo at size img (x + 1) n
