-- A file whose blocks are its own: every byte that its record leads to is claimed once, and by nothing that is free. Assumes nothing: these are definitions.
use Rattle.std.specs.Prelude.{◌≡◌, List, ℕ, zero, suc, ◌+◌, ◌-◌, ◌*◌, ◌/◌, ◌%◌, ◌^◌, ◌≤◌, ◌<◌, eqb, ltb, Option, Some, None}
use Rattle.store.specs.Where.{Range}
use Rattle.volume.specs.declared.Geometry.{Geometry}
use Rattle.frame.specs.Frame.{RunOk}
use Rattle.inode.specs.Size.{pick, held_at}
use Rattle.inode.specs.Shape.{address_at}
use Rattle.mapping.specs.Zones.{zone_start}
use Rattle.mapping.specs.Mapping.{per_list, entry_at}
use Rattle.books.specs.Books.{Book}
use Rattle.touched_write.specs.Free.{Free}

-- a place in the file's tree: under the record's address `root`, `depth` lists down, number `slot` of the places there
pub record Pos : Type 0 where
  pub root : ℕ
  pub depth : ℕ
  pub slot : ℕ

-- how many lists stand above the data under an address of the record: none, then one, two and three
abbrev pub levels : ℕ → ℕ
levels root = root - 11

pub record Valid (geo : Geometry) (c : Pos) : Type 0 where
  pub root : c.root < 15
  pub depth : c.depth ≤ levels c.root
  pub slot : c.slot < per_list geo ^ c.depth

-- address i of the list at a; "A zero address at any level is a hole"
abbrev pub child : Geometry → List ℕ → ℕ → ℕ → ℕ
child geo img a i = pick (eqb a 0) 0 (entry_at geo img a i)

-- the address at a place under the address t
unfoldable pub node : Geometry → List ℕ → ℕ → ℕ → ℕ → ℕ
node geo img t zero q = t
node geo img t (suc d) q = child geo img (node geo img t d (q / per_list geo)) (q % per_list geo)

-- the same, over the record's 15 addresses
abbrev pub node_at : Geometry → List ℕ → (ℕ → ℕ) → Pos → ℕ
node_at geo img top c = node geo img (top c.root) c.depth c.slot

-- those of the record at `at`
abbrev pub addresses : Geometry → ℕ → List ℕ → ℕ → ℕ
addresses geo at img k = address_at geo.order at k img

-- the index of the data block there
abbrev pub block_index : ℕ → ℕ → ℕ → ℕ
block_index p root slot = pick (ltb root 12) root (zone_start p (root - 11) + slot)

abbrev pub bytes_of : Option ℕ → ℕ
bytes_of (Some n) = n
bytes_of None = 0

-- how many bytes lie there: a list is a whole block, data what a file of that size holds
unfoldable pub length_at : Geometry → ℕ → Pos → ℕ
length_at geo size c = pick (ltb c.depth (levels c.root)) geo.bsize (bytes_of (held_at geo size (block_index (per_list geo) c.root c.slot)))

-- byte j is of the list or the data at place c
pub record Claims (geo : Geometry) (size : ℕ) (top : ℕ → ℕ) (img : List ℕ) (c : Pos) (j : ℕ) : Type 0 where
  pub valid : Valid geo c
  pub live : node_at geo img top c ≡ 0 → ⊥
  pub byte : Range (node_at geo img top c * geo.fsize) (length_at geo size c) j

-- no byte is claimed twice, none lies in a reserved fragment, and none is free
pub record Own (geo : Geometry) (size : ℕ) (top : ℕ → ℕ) (img : List ℕ) : Type 0 where
  pub once : (c d : Pos) (j : ℕ) → Claims geo size top img c j → Claims geo size top img d j → c ≡ d
  pub ok : (c : Pos) (j : ℕ) → Claims geo size top img c j → RunOk geo img (node_at geo img top c) (length_at geo size c / geo.fsize)
  pub used : (c : Pos) (j : ℕ) → Claims geo size top img c j → Free geo img j → ⊥

-- no block past the file's end has an address
pub record Ended (geo : Geometry) (size : ℕ) (top : ℕ → ℕ) (img : List ℕ) : Type 0 where
  pub before : (c : Pos) → Valid geo c → c.depth ≡ levels c.root → (node_at geo img top c ≡ 0 → ⊥) → block_index (per_list geo) c.root c.slot * geo.bsize < size

-- a file of that size, whose record is at `at`: its blocks are its own, and none lies past its end
pub record Tidy (geo : Geometry) (size at : ℕ) (img : List ℕ) : Type 0 where
  pub own : Own geo size (addresses geo at img) img
  pub ended : Ended geo size (addresses geo at img) img

-- ---- what a write may change, and files that share nothing

-- byte j is of the maps and counts, of the record at `at`, of what is free, or of the file's own blocks
pub data FileByte (geo : Geometry) (size at : ℕ) (img : List ℕ) (j : ℕ) : Type 0 where
  of_books : Book geo img j → FileByte geo size at img j
  of_record : Range at 256 j → FileByte geo size at img j
  of_free : Free geo img j → FileByte geo size at img j
  of_claim : (c : Pos) → Claims geo size (addresses geo at img) img c j → FileByte geo size at img j

-- two files, each with its size and where its record stands
pub record Strangers (geo : Geometry) (size at else there : ℕ) (img : List ℕ) : Type 0 where
  pub records : (j : ℕ) → Range at 256 j → Range there 256 j → ⊥
  pub blocks : (c d : Pos) (j : ℕ) → Claims geo size (addresses geo at img) img c j → Claims geo else (addresses geo there img) img d j → ⊥
