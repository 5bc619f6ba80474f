-- 01, "Numbers given back": the inode that a number names. Assumes nothing: these are definitions.
use Rattle.std.specs.Prelude.{Bool, not, ◌&&◌, List, ℕ, ◌*◌, eqb, ltb, Result, Ok, Err}
use Rattle.refusal.specs.declared.Refusal.TheVariants.{Invalid}
use Rattle.store.specs.Act.{Out, got, refused}
use Rattle.volume.specs.declared.Geometry.{Geometry}
use Rattle.volume.specs.Volume.{inode_at}
use Rattle.inode.specs.declared.Shape.{Shape}
use Rattle.inode.specs.Shape.{shape_of, type_of}
use Rattle.inode_run.specs.declared.Spot.{Spot}
use Rattle.inode_run.specs.Judge.{ask}
use Rattle.refusal.specs.declared.Refusal.{Refusal}

-- "22: .. inode number 0 or >= ncg * ipg"
unfoldable pub number_ok : Geometry → ℕ → Bool
number_ok geo i = ltb 0 i && ltb i (geo.ncg * geo.ipg)

-- "22: inode mode type 0"
unfoldable pub typed : Shape → Bool
typed s = not (eqb (type_of s.mode) 0)

-- where its record stands, and what it says of how the data lie
unfoldable pub spot_of : Geometry → List ℕ → ℕ → Spot
spot_of geo img i = record { at = inode_at geo i; shape = shape_of geo.order (inode_at geo i) img }

-- "numbers, the inode (22)"
unfoldable pub find_inode : Geometry → List ℕ → ℕ → Out Spot
find_inode geo img i = ask (number_ok geo i) Invalid (ask (typed (spot_of geo img i).shape) Invalid (got (spot_of geo img i)))

-- the code's answer
abbrev pub found_of : Out Spot → Result Spot Refusal
found_of (got s) = Ok s
found_of (refused e) = Err e
