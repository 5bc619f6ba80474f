-- Which bytes a call on an inode may change, named as the image stands when the call begins. Assumes nothing: these are definitions.
use Rattle.std.specs.Prelude.{◌≡◌, true, List, ℕ, ◌*◌, ◌<◌}
use Rattle.store.specs.Where.{Range, KeptBut}
use Rattle.volume.specs.declared.Geometry.{Geometry}
use Rattle.inode.specs.Shape.{address_at}
use Rattle.mapping.specs.Mapping.{per_list, entry_at, list_ok}
use Rattle.books.specs.Books.{Book, Steady}

-- a is where a list of the first or second zone lies, of the inode whose record is at `at`
pub data ListOf (geo : Geometry) (img : List ℕ) (at a : ℕ) : Type 0 where
  first : a ≡ address_at geo.order at 12 img → ListOf geo img at a
  second : a ≡ address_at geo.order at 13 img → ListOf geo img at a
  under : (i : ℕ) → i < per_list geo → a ≡ entry_at geo img (address_at geo.order at 13 img) i → ListOf geo img at a

-- byte j is of the maps and counts, or of one of the inode's lists
pub data ShrinkByte (geo : Geometry) (img : List ℕ) (at j : ℕ) : Type 0 where
  of_books : Book geo img j → ShrinkByte geo img at j
  of_list : (a : ℕ) → ListOf geo img at a → list_ok geo img a ≡ true → Range (a * geo.fsize) geo.bsize j → ShrinkByte geo img at j

-- or of its record
pub data TruncateByte (geo : Geometry) (img : List ℕ) (at j : ℕ) : Type 0 where
  of_work : ShrinkByte geo img at j → TruncateByte geo img at j
  of_record : Range at 256 j → TruncateByte geo img at j

-- xs with other bytes where Q says, and laid out as it was
pub record Alike (geo : Geometry) (Q : ℕ → Type 0) (xs ys : List ℕ) : Type 0 where
  pub steady : Steady geo xs ys
  pub but : KeptBut Q xs ys
