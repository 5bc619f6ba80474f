-- 01, "Inodes and mapping": reading a file's bytes. Assumes nothing: these are definitions.
use Rattle.std.specs.Prelude.{Bool, not, List, [], ℕ, ◌+◌, ◌-◌, ◌*◌, ◌/◌, ◌≤◌, length, Option, Some, None}
use Rattle.field.specs.Field.{put, part, zeros}
use Rattle.refusal.specs.declared.Refusal.TheVariants.{Damaged}
use Rattle.store.specs.Act.{Out, got, refused}
use Rattle.volume.specs.declared.Geometry.{Geometry}
use Rattle.bits.specs.Upto.{first}
use Rattle.inode_run.specs.declared.Run.{Run}
use Rattle.inode_run.specs.Run.{run_at, readable, file_bytes}

-- a block that cannot be read: a list or its run is damaged, or its index is past the triple zone (in the work "a 22 from a stored .. index is 97")
abbrev pub bad : Geometry → ℕ → ℕ → List ℕ → ℕ → Bool
bad geo at size img i = not (readable (run_at geo at size img i))

-- n bytes from `off`: the index past the last block of them
abbrev pub past_last : Geometry → ℕ → ℕ → ℕ
past_last geo off n = (off + n - 1) / geo.bsize + 1

-- the first block of them that cannot be read
unfoldable pub stop : Geometry → ℕ → ℕ → List ℕ → ℕ → ℕ → Option ℕ
stop geo at size img off n = first (bad geo at size img) (off / geo.bsize) (past_last geo off n - off / geo.bsize)

-- "Refused reads leave output from earlier blocks": the rest of the buffer is untouched
abbrev pub read_to : Geometry → ℕ → ℕ → List ℕ → ℕ → ℕ → List ℕ → Option ℕ → List ℕ × Out ℕ
read_to geo at size img off n buf None = (put 0 (file_bytes geo at size img off n) buf, got n)
read_to geo at size img off n buf (Some j) = (put 0 (file_bytes geo at size img off (j * geo.bsize - off)) buf, refused Damaged)

-- n bytes, one at least, read from `off` into the buffer: of the file of that size whose record is at `at`
unfoldable pub read_at : Geometry → ℕ → ℕ → List ℕ → ℕ → ℕ → List ℕ → List ℕ × Out ℕ
read_at geo at size img off n buf = read_to geo at size img off n buf (stop geo at size img off n)

-- ---- a piece of one block

-- the n bytes of a block from its byte `from` on
abbrev pub piece_of : Geometry → List ℕ → Run → ℕ → ℕ → List ℕ
piece_of geo img (Run.At a m) from n = part n (a.0 * geo.fsize + from) img
piece_of geo img (Run.Hole m) from n = zeros n
piece_of geo img Run.Past from n = []
piece_of geo img Run.Bad from n = []

-- the first `end` bytes of a block that has an address lie in the image
abbrev pub Reaches : Geometry → List ℕ → Run → ℕ → Type 0
Reaches geo img (Run.At a m) end = a.0 * geo.fsize + end ≤ length img
Reaches geo img (Run.Hole m) end = Unit {0}
Reaches geo img Run.Past end = Unit {0}
Reaches geo img Run.Bad end = Unit {0}
