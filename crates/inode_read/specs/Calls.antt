-- 01, "Inodes and mapping": the public calls that read, with the order of refusals. Assumes nothing: these are definitions.
use Rattle.std.specs.Prelude.{not, List, ℕ, ◌-◌, min, length, eqb, ltb, Option, Some, None, Result, Ok, Err}
use Rattle.refusal.specs.declared.Refusal.TheVariants.{Damaged, Invalid, TextInInode}
use Rattle.store.specs.Act.{Out, got, refused}
use Rattle.volume.specs.declared.Geometry.{Geometry}
use Rattle.volume.specs.declared.FragNum.{FragNum}
use Rattle.inode.specs.declared.Shape.{Shape}
use Rattle.inode.specs.Size.{pick, held_at}
use Rattle.inode.specs.Shape.{sized, in_place}
use Rattle.mapping.specs.Zones.{zones_end}
use Rattle.mapping.specs.Mapping.{per_list}
use Rattle.inode_run.specs.declared.Spot.{Spot}
use Rattle.inode_run.specs.declared.Run.{Run}
use Rattle.inode_run.specs.Judge.{ask, and_then, reading}
use Rattle.inode_run.specs.Find.{find_inode}
use Rattle.inode_run.specs.Run.{run_at}
use Rattle.inode_read.specs.Read.{read_at}
use Rattle.refusal.specs.declared.Refusal.{Refusal}

-- ---- "Order: 97 for an unsound volume, .. numbers, the inode (22), kind (5, ..)"

-- an inode of a sound volume
pub record Place : Type 0 where
  pub geo : Geometry
  pub spot : Spot

unfoldable pub place_in : List ℕ → ℕ → Out Place
place_in img i = reading (λ geo. and_then (find_inode geo img i) (λ s. got (record { geo = geo; spot = s }))) img

-- the code's answer
abbrev pub known_of : Out Place → Result (Geometry × Spot) Refusal
known_of (got p) = Ok (p.geo, p.spot)
known_of (refused e) = Err e

-- ---- how many bytes a block holds

-- "block index past the file's end" is 22
abbrev pub held_out : Option ℕ → Out ℕ
held_out (Some n) = got n
held_out None = refused Invalid

-- 97 for a kind that has no size: "each place with no other number where the Rust would panic"
unfoldable pub size_out : Geometry → Shape → ℕ → Out ℕ
size_out geo s i = ask (sized s) Damaged (held_out (held_at geo s.size i))

unfoldable pub inode_get_block_size : List ℕ → ℕ → ℕ → Out ℕ
inode_get_block_size img i idx = and_then (place_in img i) (λ p. size_out p.geo p.spot.shape idx)

abbrev pub size_answer : Out ℕ → Result ℕ Refusal
size_answer (got n) = Ok n
size_answer (refused e) = Err e

-- ---- where a block lies

-- an address, or a hole
pub data Landing : Type 0 where
  address : FragNum → Landing
  hole : Landing

-- "A run that touches a reserved fragment or is not within one group's ndblk is 97"
abbrev pub landed : Run → Out Landing
landed (Run.At a n) = got (address a)
landed (Run.Hole n) = got hole
landed Run.Past = refused Damaged
landed Run.Bad = refused Damaged

-- "block asked of a link whose text is in the inode" is 5, once the block is one of the file
unfoldable pub landing_out : Geometry → Spot → List ℕ → ℕ → Out Landing
landing_out geo s img i = ask (not (in_place s.shape)) TextInInode (landed (run_at geo s.at s.shape.size img i))

-- "block index past the file's end or the triple zone" is 22: so are a bad inode number and type 0, so that the index may be asked after the inode is found
unfoldable pub resolve_out : Geometry → Spot → List ℕ → ℕ → Out Landing
resolve_out geo s img i =
    ask (ltb i (zones_end (per_list geo))) Invalid (and_then (size_out geo s.shape i) (λ n. landing_out geo s img i))

unfoldable pub inode_resolve_block : List ℕ → ℕ → ℕ → Out Landing
inode_resolve_block img i idx = and_then (place_in img i) (λ p. resolve_out p.geo p.spot img idx)

abbrev pub resolved_answer : Out Landing → Result (Option FragNum) Refusal
resolved_answer (got (address a)) = Ok (Some a)
resolved_answer (got hole) = Ok None
resolved_answer (refused e) = Err e

-- ---- reading

-- n bytes from `off` on: a kind is refused only where a byte is asked for
unfoldable pub read_out : Geometry → Spot → List ℕ → ℕ → ℕ → List ℕ → List ℕ × Out ℕ
read_out geo s img off n buf =
    pick (eqb n 0) (buf, got 0)
    (pick (in_place s.shape) (buf, refused TextInInode)
    (pick (sized s.shape) (read_at geo s.at s.shape.size img off n buf)
    (buf, refused Damaged)))

-- "A read at or past the size gives 0 bytes"
abbrev pub asked : ℕ → ℕ → ℕ → ℕ
asked room size off = min room (size - off)

abbrev pub read_found : List ℕ → ℕ → List ℕ → Out Place → List ℕ × Out ℕ
read_found img off buf (got p) = read_out p.geo p.spot img off (asked (length buf) p.spot.shape.size off) buf
read_found img off buf (refused e) = (buf, refused e)

unfoldable pub inode_read : List ℕ → ℕ → ℕ → List ℕ → List ℕ × Out ℕ
inode_read img i off buf = read_found img off buf (place_in img i)

abbrev pub read_of : Out ℕ → Result ℕ Refusal
read_of (got n) = Ok n
read_of (refused e) = Err e

abbrev pub read_answer : List ℕ × Out ℕ → List ℕ × Result ℕ Refusal
read_answer p = (p.0, read_of p.1)
