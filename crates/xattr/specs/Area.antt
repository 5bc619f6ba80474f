-- 01, "Directory records and attributes": where an inode's attribute area lies, and its bytes. Assumes nothing: these are definitions.
use Rattle.std.specs.Prelude.{Bool, not, ◌&&◌, List, ◌++◌, ℕ, ◌+◌, ◌-◌, ◌*◌, ◌/◌, ◌≤◌, ◌<◌, min, length, eqb, ltb, Result, Ok, Err}
use Rattle.field.specs.Field.{part}
use Rattle.volume.specs.declared.Geometry.{Geometry}
use Rattle.frame.specs.Frame.{run_okb}
use Rattle.inode.specs.Size.{pick}
use Rattle.inode.specs.Places.{extsize_at, extb_at}
use Rattle.xattr.specs.declared.Area.{Area}
use Rattle.refusal.specs.Refusal.{damage}
use Rattle.refusal.specs.declared.Damage.{Damage}

-- the address of the j-th block of the area
abbrev pub extb : Geometry → ℕ → List ℕ → ℕ → ℕ
extb geo at img j = extb_at geo.order at j img

-- "a zero address for a needed block .. 97": n bytes of the j-th block are needed, in whole fragments
unfoldable pub block_ok : Geometry → ℕ → List ℕ → ℕ → ℕ → Bool
block_ok geo at img j n = not (eqb (extb geo at img j) 0) && run_okb geo img (extb geo at img j) ((n + (geo.fsize - 1)) / geo.fsize)

-- where they begin; a block of which none are needed is not looked at
unfoldable pub block_at : Geometry → ℕ → List ℕ → ℕ → ℕ → Result ℕ Damage
block_at geo at img j n =
    pick (eqb n 0) (Ok 0) (pick (block_ok geo at img j n) (Ok (extb geo at img j * geo.fsize)) (Err damage))

abbrev pub joined : ℕ → ℕ → Result ℕ Damage → Result ℕ Damage → Result Area Damage
joined size split (Ok x) (Ok y) = Ok (record { size = size; split = split; first = x; second = y })
joined size split (Ok x) (Err harm) = Err damage
joined size split (Err harm) (Ok y) = Err damage
joined size split (Err harm) (Err worse) = Err damage

-- an area of that size, in up to two blocks: "an area of 2 * bsize or more .. 97"
unfoldable pub area_sized : Geometry → ℕ → List ℕ → ℕ → Result Area Damage
area_sized geo at img size =
    pick (ltb size (2 * geo.bsize))
    (joined size (min size geo.bsize) (block_at geo at img 0 (min size geo.bsize)) (block_at geo at img 1 (size - min size geo.bsize)))
    (Err damage)

-- the area of the inode whose record is at `at`
unfoldable pub area_of : Geometry → ℕ → List ℕ → Result Area Damage
area_of geo at img = area_sized geo at img (extsize_at geo.order at img)

-- "the attribute area gathered": its bytes
unfoldable pub gathered : Area → List ℕ → List ℕ
gathered a img = part a.split a.first img ++ part (a.size - a.split) a.second img

-- both parts lie in the image
pub record Inside (a : Area) (img : List ℕ) : Type 0 where
  pub split : a.split ≤ a.size
  pub first : a.first + a.split ≤ length img
  pub second : a.second + (a.size - a.split) ≤ length img
  pub small : a.size < 131072
  pub image : length img ≤ 1073741824
