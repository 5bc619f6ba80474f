-- Single numbers of an inode's record, read and stored where the calls change them alone. Assumes nothing: these are definitions.
use Rattle.std.specs.Prelude.{List, ℕ, ◌+◌, ◌*◌}
use Rattle.field.specs.Field.{num}
use Rattle.field.specs.declared.Order.{Order}
use Rattle.store.specs.Store.{Write, number}

-- how many names lead to the inode
unfoldable pub nlink_at : Order → ℕ → List ℕ → ℕ
nlink_at o at img = num o 2 (at + 2) img

unfoldable pub nlink_write : Order → ℕ → ℕ → Write
nlink_write o at v = number o 2 (at + 2) v

unfoldable pub size_at : Order → ℕ → List ℕ → ℕ
size_at o at img = num o 8 (at + 16) img

unfoldable pub size_write : Order → ℕ → ℕ → Write
size_write o at v = number o 8 (at + 16) v

-- how many units of 512 bytes the data hold
unfoldable pub blocks_at : Order → ℕ → List ℕ → ℕ
blocks_at o at img = num o 8 (at + 24) img

unfoldable pub blocks_write : Order → ℕ → ℕ → Write
blocks_write o at v = number o 8 (at + 24) v

-- the k-th of the 15 addresses, which `address_at` reads
unfoldable pub address_write : Order → ℕ → ℕ → ℕ → Write
address_write o at k v = number o 8 (at + 112 + k * 8) v

unfoldable pub generation_at : Order → ℕ → List ℕ → ℕ
generation_at o at img = num o 4 (at + 80) img

-- the size of the attribute area, and the j-th of its two addresses
unfoldable pub extsize_at : Order → ℕ → List ℕ → ℕ
extsize_at o at img = num o 4 (at + 92) img

unfoldable pub extb_at : Order → ℕ → ℕ → List ℕ → ℕ
extb_at o at j img = num o 8 (at + 96 + j * 8) img
