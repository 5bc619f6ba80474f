-- 01, "Inodes and mapping": what an inode's record says of how its data lie. Assumes nothing: these are definitions.
use Rattle.std.specs.Prelude.{Bool, true, false, ◌&&◌, ◌||◌, List, ℕ, ◌+◌, ◌*◌, ◌/◌, eqb, ltb}
use Rattle.field.specs.Field.{num}
use Rattle.field.specs.declared.Order.{Order}
use Rattle.inode.specs.declared.Shape.{Shape}

-- mode, size and blocks of the record at `at`
unfoldable pub shape_of : Order → ℕ → List ℕ → Shape
shape_of o at img = record { mode = num o 2 (at + 0) img; size = num o 8 (at + 16) img; blocks = num o 8 (at + 24) img }

-- "addresses fill 112 to 231, 12 direct and 3 indirect": the k-th of the 15
unfoldable pub address_at : Order → ℕ → ℕ → List ℕ → ℕ
address_at o at k img = num o 8 (at + 112 + k * 8) img

-- dinode.h's types, IFMT's bits of the mode as a number: IFTODT(mode), the type of a directory record
unfoldable pub type_of : ℕ → ℕ
type_of mode = mode / 4096

abbrev pub is_dir : Shape → Bool
is_dir s = eqb (type_of s.mode) 4

abbrev pub is_link : Shape → Bool
is_link s = eqb (type_of s.mode) 10

-- the kinds that have a size: a regular file, a directory, a symbolic link
unfoldable pub sized : Shape → Bool
sized s = eqb (type_of s.mode) 8 || eqb (type_of s.mode) 4 || eqb (type_of s.mode) 10

-- "A symlink under 120 bytes has its text there"; so does one that holds no blocks, as the Rust has it
unfoldable pub in_place : Shape → Bool
in_place s = is_link s && (ltb s.size 120 || eqb s.blocks 0)
