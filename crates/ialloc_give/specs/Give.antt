-- 01, "Inodes and mapping": an inode given out, and a link more. Assumes nothing: these are definitions.
use Rattle.std.specs.Prelude.{ℕ, ◌+◌, ◌*◌, ◌%◌, false, List, [], ◌∷◌, ◌==◌, nat_lt, Option, Some, None, Result, Ok, Err}
use Rattle.refusal.specs.declared.Refusal.TheVariants.{LinkedInode, NoSpace, Damaged}
use Rattle.store.specs.Act.{Out, got, refused, Act, pure, refuse, store, ◌>>=◌, ◌>>◌}
use Rattle.volume.specs.declared.Geometry.{Geometry}
use Rattle.volume.specs.Volume.{inode_at}
use Rattle.inode.specs.declared.Inode.{Inode}
use Rattle.inode.specs.declared.InodeType.{InodeType}
use Rattle.inode.specs.declared.Times.{Times}
use Rattle.inode.specs.Kind.{type_number}
use Rattle.inode.specs.Places.{nlink_at, nlink_write, generation_at}
use Rattle.inode_record.specs.Record.{inode_store}
use Rattle.inode_run.specs.Judge.{ask}
use Rattle.books.specs.Work.{given}
use Rattle.ialloc_give.specs.Marks.{mark_used, count_inode}
use Rattle.ialloc_give.specs.Choose.{chosen, inode_number}
use Rattle.refusal.specs.declared.Refusal.{Refusal}
use Rattle.volume.specs.declared.InodeNum.{InodeNum}

-- Inode::new: "a new inode holds type and permission bits, owners, blksize = bsize, one time passed in for all four, and zeros"
unfoldable pub new_inode : Geometry → InodeType → ℕ → ℕ → ℕ → Times → Inode
new_inode geo kind perm uid gid t =
    record {
      mode = type_number kind * 4096 + perm % 4096;
      nlink = 0;
      uid = uid;
      gid = gid;
      blksize = geo.bsize;
      size = 0;
      blocks = 0;
      times = t;
      generation = 0;
      kernflags = 0;
      flags = 0;
      extsize = 0;
      extb = 0 ∷ 0 ∷ [];
      direct = 0 ∷ 0 ∷ 0 ∷ 0 ∷ 0 ∷ 0 ∷ 0 ∷ 0 ∷ 0 ∷ 0 ∷ 0 ∷ 0 ∷ [];
      indirect = 0 ∷ 0 ∷ 0 ∷ [];
      modrev = 0;
      ignored = 0;
      ckhash = 0;
      spare = 0 ∷ 0 ∷ [];
    }

-- that record with one link, and the generation n
unfoldable pub with_link : ℕ → Inode → Inode
with_link n v =
    record {
      mode = v.mode;
      nlink = 1;
      uid = v.uid;
      gid = v.gid;
      blksize = v.blksize;
      size = v.size;
      blocks = v.blocks;
      times = v.times;
      generation = n;
      kernflags = v.kernflags;
      flags = v.flags;
      extsize = v.extsize;
      extb = v.extb;
      direct = v.direct;
      indirect = v.indirect;
      modrev = v.modrev;
      ignored = v.ignored;
      ckhash = v.ckhash;
      spare = v.spare;
    }

-- "then tests the link count, sets generation + 1 (a full 32-bit generation is 97)": 14, 97, or the generation that the inode gets
unfoldable pub setup_test : Geometry → ℕ → List ℕ → Out ℕ
setup_test geo i img =
    ask (nlink_at geo.order (inode_at geo i) img == 0) LinkedInode
    (ask (nat_lt (generation_at geo.order (inode_at geo i) img) 4294967295) Damaged
    (got (generation_at geo.order (inode_at geo i) img + 1)))

-- inode_setup: the record stored whole
unfoldable pub set_up : Geometry → Inode → ℕ → Act (Unit {0})
set_up geo new i = λ img. given (setup_test geo i img) (λ n. store (inode_store geo.order (inode_at geo i) (with_link n new))) img

-- "it sets the bit", then the record, then the two counts
unfoldable pub give_at : Geometry → Inode → ℕ → ℕ → Act ℕ
give_at geo new g k = do
  mark_used 1 geo g k
  set_up geo new (inode_number geo g k)
  count_inode false geo g
  pure (inode_number geo g k)

abbrev pub give_place : Geometry → Inode → Option (ℕ × ℕ) → Act ℕ
give_place geo new (Some (g, k)) = give_at geo new g k
give_place geo new None = refuse NoSpace

-- inode_alloc: an inode given, or 28
unfoldable pub give_inode : Geometry → Inode → Act ℕ
give_inode geo new = λ img. give_place geo new (chosen geo img) img

-- inode_bump: one link more; in the work a full count is 97
unfoldable pub bump : Geometry → ℕ → Act (Unit {0})
bump geo i =
    λ img. given (ask (nat_lt (nlink_at geo.order (inode_at geo i) img) 65535) Damaged (got (nlink_at geo.order (inode_at geo i) img)))
    (λ n. store (nlink_write geo.order (inode_at geo i) (n + 1) ∷ [])) img

-- the code's answers
abbrev pub new_out : Result InodeNum Refusal → Out ℕ
new_out (Ok i) = got i.0
new_out (Err e) = refused e

abbrev pub stored_out : Result (Unit {0}) Refusal → Out (Unit {0})
stored_out (Ok u) = got (tt {0})
stored_out (Err e) = refused e
