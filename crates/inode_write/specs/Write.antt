-- 01, "Inodes and mapping": writing a file's bytes. Assumes nothing: these are definitions.
use Rattle.std.specs.Prelude.{List, [], ◌∷◌, ℕ, ◌+◌, ◌-◌, ◌*◌, ◌/◌, min, max, length, eqb, ltb, Result, Ok, Err}
use Rattle.field.specs.Field.{part, zeros}
use Rattle.refusal.specs.declared.Refusal.TheVariants.{Damaged}
use Rattle.store.specs.Store.{Store}
use Rattle.store.specs.Act.{Out, got, refused, Act, pure, refuse, reads, store, ◌>>=◌, ◌>>◌, choose, each}
use Rattle.volume.specs.declared.Geometry.{Geometry}
use Rattle.inode.specs.Places.{size_write, blocks_at}
use Rattle.inode_run.specs.declared.Run.{Run}
use Rattle.inode_run.specs.declared.Run.TheVariants as Run
use Rattle.inode_run.specs.Run.{run_at}
use Rattle.inode_run.specs.Judge.{ask}
use Rattle.inode_read.specs.Read.{past_last}
use Rattle.balloc_give.specs.Give.{give_block}
use Rattle.books.specs.Work.{given}
use Rattle.inode_setblock.specs.Set.{set_block}
use Rattle.refusal.specs.declared.Refusal.{Refusal}

-- ---- the stores

-- bytes from byte `from` of the block at a on
unfoldable pub piece_store : Geometry → ℕ → ℕ → List ℕ → Store
piece_store geo a from bytes = record { at = a * geo.fsize + from; bytes = bytes } ∷ []

-- the n bytes of a new block: zeros, with the bytes in their place; what the block has past them stays
unfoldable pub fresh_store : Geometry → ℕ → ℕ → ℕ → List ℕ → Store
fresh_store geo a n from bytes = record { at = a * geo.fsize; bytes = zeros n } ∷ record { at = a * geo.fsize + from; bytes = bytes } ∷ []

-- ---- one block; h is how many units of 512 bytes the data hold

-- one block more; over 64 bits is damage
unfoldable pub held_more : Geometry → ℕ → Out ℕ
held_more geo h = ask (ltb (h + geo.bsize / 512) 18446744073709551616) Damaged (got (h + geo.bsize / 512))

-- the block at a, given out for index i: its address is set, then its bytes are stored
unfoldable pub fill_given : Geometry → ℕ → ℕ → ℕ → ℕ → List ℕ → ℕ → ℕ → Act ℕ
fill_given geo at i n from bytes h a = given (held_more geo h) (λ m. set_block geo at i a m >>= (λ _. store (fresh_store geo a n from bytes) >> pure m))

-- a hole is given a block
unfoldable pub fill_hole : Geometry → ℕ → ℕ → ℕ → ℕ → List ℕ → ℕ → Act ℕ
fill_hole geo at i n from bytes h = give_block geo >>= fill_given geo at i n from bytes h

abbrev pub write_run : Geometry → ℕ → ℕ → ℕ → List ℕ → ℕ → Run → Act ℕ
write_run geo at i from bytes h (Run.At a n) = store (piece_store geo a.0 from bytes) >> pure h
write_run geo at i from bytes h (Run.Hole n) = fill_hole geo at i n from bytes h
write_run geo at i from bytes h Run.Past = refuse Damaged
write_run geo at i from bytes h Run.Bad = refuse Damaged

-- inode_write_block: bytes from byte `from` of block i on, of a file of that size whose record is at `at`
unfoldable pub write_block : Geometry → ℕ → ℕ → ℕ → ℕ → List ℕ → ℕ → Act ℕ
write_block geo at size i from bytes h = λ img. write_run geo at i from bytes h (run_at geo at size img i) img

-- ---- all blocks

-- of the bytes written from `off` on, those that go to block i
unfoldable pub piece_at : Geometry → ℕ → List ℕ → ℕ → List ℕ
piece_at geo off buf i = part (min (geo.bsize - (off - i * geo.bsize)) (length buf - (i * geo.bsize - off))) (i * geo.bsize - off) buf

abbrev pub write_turn : Geometry → ℕ → ℕ → ℕ → List ℕ → ℕ → ℕ → Act ℕ
write_turn geo at size off buf i h = write_block geo at size i (off - i * geo.bsize) (piece_at geo off buf i) h

unfoldable pub write_blocks : Geometry → ℕ → ℕ → ℕ → List ℕ → ℕ → Act ℕ
write_blocks geo at size off buf h = each (write_turn geo at size off buf) (past_last geo off (length buf) - off / geo.bsize) (off / geo.bsize) h

-- inode_write, of a file of that size until then: the size is stored first, also where it stays as it was; where there are no bytes, no block is touched
unfoldable pub write_at : Geometry → ℕ → ℕ → ℕ → List ℕ → Act (Unit {0})
write_at geo at size off buf =
    store (size_write geo.order at (max size (off + length buf)) ∷ [])
    >> choose (eqb (length buf) 0) (pure (tt {0})) (reads (blocks_at geo.order at) >>= (λ h. write_blocks geo at (max size (off + length buf)) off buf h >> pure (tt {0})))

-- the code's answer: the units that are then held
abbrev pub counted_out : Result ℕ Refusal → Out ℕ
counted_out (Ok n) = got n
counted_out (Err e) = refused e
