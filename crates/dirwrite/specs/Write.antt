-- 01, "Directory records and attributes": a directory's blocks written, moved and cut off; in the work, where what is not 14 or 28 is 97. Assumes nothing: these are definitions.
use Rattle.std.specs.Prelude.{List, ℕ, ◌+◌, ◌-◌, ◌*◌, ◌/◌, length}
use Rattle.field.specs.Field.{zeros}
use Rattle.field.specs.declared.Order.{Order}
use Rattle.store.specs.Act.{Out, got, refused, Act, pure, ◌>>=◌, ◌>>◌, each}
use Rattle.volume.specs.declared.Geometry.{Geometry}
use Rattle.dirblock.specs.declared.Entry.{Entry}
use Rattle.dirblock.specs.Write.{put_rec}
use Rattle.dirblock.specs.Link.{link_in, unlink_in}
use Rattle.inode_run.specs.declared.Spot.{Spot}
use Rattle.inode_run.specs.Find.{find_inode}
use Rattle.books.specs.Work.{damaged_out, or_damaged, given}
use Rattle.ialloc_give.specs.Give.{bump}
use Rattle.ialloc_free.specs.Free.{free_inode}
use Rattle.truncate.specs.Call.{judged_work}
use Rattle.inode_write.specs.Write.{write_at}
use Rattle.dirfile.specs.Block.{dir_block}

-- ---- one block, of the directory of that size whose record is at `at`

-- block k with the name linked into it
unfoldable pub link_block : Geometry → ℕ → ℕ → ℕ → ℕ → ℕ → List ℕ → Act (Unit {0})
link_block geo at size k inr kind name = λ img. given (dir_block geo at size img k) (λ b. write_at geo at size (k * 512) (link_in geo.order b inr kind name).0) img

-- block k with the name unlinked from it
unfoldable pub unlink_block : Geometry → ℕ → ℕ → ℕ → List ℕ → Act (Unit {0})
unlink_block geo at size k name = λ img. given (dir_block geo at size img k) (λ b. write_at geo at size (k * 512) (unlink_in geo.order b name).0) img

-- ---- no block has room

-- a record that fills a block
unfoldable pub sole_block : Order → ℕ → ℕ → List ℕ → List ℕ
sole_block o inr kind name = put_rec o 0 (record { inr = inr; reclen = 512; kind = kind; namelen = length name }) name (zeros 512)

-- the directory grows by one block, which the new record fills
unfoldable pub link_grown : Geometry → Spot → ℕ → ℕ → List ℕ → Act (Unit {0})
link_grown geo s inr kind name =
    or_damaged (judged_work geo s.at s.shape (s.shape.size + 512))
    >> write_at geo s.at (s.shape.size + 512) s.shape.size (sole_block geo.order inr kind name)

-- ---- a block that goes

-- inode_copy_range: block q goes to the place before it
unfoldable pub move_block : Geometry → ℕ → ℕ → ℕ → Act (Unit {0})
move_block geo at size q = λ img. given (dir_block geo at size img q) (λ b. write_at geo at size ((q - 1) * 512) b) img

-- all blocks behind block k, upward
unfoldable pub close_up : Geometry → ℕ → ℕ → ℕ → Act (Unit {0})
close_up geo at size k = each (λ q _. move_block geo at size q) (size / 512 - (k + 1)) (k + 1) (tt {0})

-- inode_truncate of the inode i, read again
unfoldable pub cut_to : Geometry → ℕ → ℕ → Act (Unit {0})
cut_to geo i new = λ img. given (damaged_out (find_inode geo img i)) (λ s. or_damaged (judged_work geo s.at s.shape new)) img

-- the blocks behind block k close up, and the directory i is one block shorter
unfoldable pub drop_block : Geometry → ℕ → ℕ → ℕ → ℕ → Act (Unit {0})
drop_block geo i at size k = close_up geo at size k >> cut_to geo i (size - 512)

-- ---- links of an inode that is found again

unfoldable pub bump_found : Geometry → ℕ → Act (Unit {0})
bump_found geo i = λ img. given (damaged_out (find_inode geo img i)) (λ _. bump geo i) img

unfoldable pub free_found : Geometry → ℕ → Act (Unit {0})
free_found geo i = λ img. given (damaged_out (find_inode geo img i)) (λ _. free_inode geo i) img
