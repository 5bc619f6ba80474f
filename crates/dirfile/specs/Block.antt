-- 01, "Directory records and attributes": "512-byte blocks": those of a directory, read as the blocks of its file are. Assumes nothing: these are definitions.
use Rattle.std.specs.Prelude.{Bool, true, false, List, ℕ, ◌+◌, ◌*◌, ◌/◌, ◌%◌, ◌≤◌, length, Option, Some, None, Result, Ok, Err}
use Rattle.field.specs.Field.{part, zeros}
use Rattle.refusal.specs.declared.Refusal.TheVariants.{Damaged, NotDirectory}
use Rattle.store.specs.Act.{Out, got, refused}
use Rattle.volume.specs.declared.Geometry.{Geometry}
use Rattle.inode.specs.Shape.{is_dir}
use Rattle.inode_run.specs.declared.Spot.{Spot}
use Rattle.inode_run.specs.declared.Run.{Run}
use Rattle.inode_run.specs.Judge.{ask, and_then}
use Rattle.inode_run.specs.Find.{find_inode}
use Rattle.inode_run.specs.Run.{run_at, readable}
use Rattle.inode_read.specs.Read.{piece_of}
use Rattle.refusal.specs.Refusal.{damage}
use Rattle.refusal.specs.declared.Damage.{Damage}

-- "numbers, the inode (22), kind (.., 20, ..)": the directory that a number names
unfoldable pub dir_of : Geometry → List ℕ → ℕ → Out Spot
dir_of geo img i = and_then (find_inode geo img i) (λ s. ask (is_dir s.shape) NotDirectory (got s))

-- the run that block k of 512 bytes is in, of the directory of that size whose record is at `at`
unfoldable pub dir_run : Geometry → ℕ → ℕ → List ℕ → ℕ → Run
dir_run geo at size img k = run_at geo at size img (k * 512 / geo.bsize)

-- the 512 bytes of a run from its byte `from` on; "A zero address at any level is a hole, read as zeros"; what cannot be read is damage
unfoldable pub piece_out : Geometry → List ℕ → Run → ℕ → Out (List ℕ)
piece_out geo img r from = ask (readable r) Damaged (got (piece_of geo img r from 512))

unfoldable pub dir_block : Geometry → ℕ → ℕ → List ℕ → ℕ → Out (List ℕ)
dir_block geo at size img k = piece_out geo img (dir_run geo at size img k) (k * 512 % geo.bsize)

-- ---- the code's answers

-- the bytes at a place of the image
abbrev pub bytes_at : List ℕ → Result (Option ℕ) Damage → Out (List ℕ)
bytes_at img (Ok (Some p)) = got (part 512 p img)
bytes_at img (Ok None) = got (zeros 512)
bytes_at img (Err harm) = refused Damaged

-- they lie in it
abbrev pub InImage : List ℕ → Result (Option ℕ) Damage → Type 0
InImage img (Ok (Some p)) = p + 512 ≤ length img
InImage img (Ok None) = Unit {0}
InImage img (Err harm) = Unit {0}

-- a buffer that a block was read into, or was not
abbrev pub read_into : Bool → List ℕ → Out (List ℕ)
read_into true b = got b
read_into false b = refused Damaged
