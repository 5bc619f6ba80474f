-- 01, "Inodes and mapping": an inode loses a link, and is freed with its last one. Assumes nothing: these are definitions.
use Rattle.std.specs.Prelude.{true, List, [], ◌∷◌, ℕ, ◌-◌, ◌/◌, ◌%◌, eqb, Result, Ok, Err}
use Rattle.refusal.specs.declared.Refusal.TheVariants.{Damaged}
use Rattle.field.specs.Field.{part, zeros}
use Rattle.store.specs.Store.{Write}
use Rattle.store.specs.Act.{Out, got, refused, Act, pure, refuse, store, ◌>>=◌, ◌>>◌, choose, each}
use Rattle.volume.specs.declared.Geometry.{Geometry}
use Rattle.volume.specs.Volume.{inode_at}
use Rattle.bits.specs.Bits.{is_clear}
use Rattle.sound.specs.Sound.{used_at}
use Rattle.inode.specs.declared.Shape.{Shape}
use Rattle.inode.specs.Shape.{shape_of, address_at, in_place}
use Rattle.inode.specs.Places.{nlink_at, nlink_write}
use Rattle.ialloc_tree.specs.Tree.{free_tree}
use Rattle.ialloc_give.specs.Marks.{mark_used, count_inode}
use Rattle.refusal.specs.declared.Refusal.{Refusal}

-- the record's 256 bytes made 0
unfoldable pub zero_record : ℕ → Write
zero_record at = record { at = at; bytes = zeros 256 }

-- a bit that is clear already is 97
unfoldable pub clear_used : Geometry → ℕ → ℕ → Act (Unit {0})
clear_used geo g k = λ img. choose (is_clear img (used_at geo g img) k) (refuse Damaged) (mark_used 0 geo g k) img

-- the k-th of the 15 addresses: the first 12 are of blocks, and those past them lead 1, 2 and 3 lists down
unfoldable pub free_address : Geometry → Shape → List ℕ → ℕ → ℕ → Act ℕ
free_address geo s rec k held = free_tree geo s (k - 11) (address_at geo.order 0 k rec) k held

unfoldable pub free_addresses : Geometry → Shape → List ℕ → Act (Unit {0})
free_addresses geo s rec = each (free_address geo s rec) 15 0 s.blocks >> pure (tt {0})

-- what the record leads to: none where a link's text stands in the record
unfoldable pub free_data : Geometry → List ℕ → Act (Unit {0})
free_data geo rec = choose (in_place (shape_of geo.order 0 rec)) (pure (tt {0})) (free_addresses geo (shape_of geo.order 0 rec) rec)

-- the record zeroed, the bit, the two counts, and then what the record as it was before leads to
unfoldable pub free_unlinked : Geometry → ℕ → List ℕ → Act (Unit {0})
free_unlinked geo i rec = do
  store (zero_record (inode_at geo i) ∷ [])
  clear_used geo (i / geo.ipg) (i % geo.ipg)
  count_inode true geo (i / geo.ipg)
  free_data geo rec

-- one link fewer, of n
unfoldable pub unlink : Geometry → ℕ → List ℕ → ℕ → Act (Unit {0})
unlink geo i rec n =
    choose (eqb n 0) (refuse Damaged)
    (store (nlink_write geo.order (inode_at geo i) (n - 1) ∷ []) >> choose (eqb n 1) (free_unlinked geo i rec) (pure (tt {0})))

-- inode_free; in the work a count of 0 is 97
unfoldable pub free_inode : Geometry → ℕ → Act (Unit {0})
free_inode geo i = λ img. unlink geo i (part 256 (inode_at geo i) img) (nlink_at geo.order (inode_at geo i) img) img

-- the code's answer
abbrev pub unlinked_out : Result (Unit {0}) Refusal → Out (Unit {0})
unlinked_out (Ok u) = got (tt {0})
unlinked_out (Err e) = refused e
