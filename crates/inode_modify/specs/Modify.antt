-- 01: the public call that changes what an inode's record says of its owners, permission and times. Assumes nothing: these are definitions.
use Rattle.std.specs.Prelude.{List, [], ◌∷◌, ℕ, ◌+◌, ◌*◌, ◌/◌, ◌%◌, Option, Some, None, Result, Ok, Err}
use Rattle.refusal.specs.declared.Refusal.TheVariants.{Damaged}
use Rattle.store.specs.Act.{Out, got, refused, Act, pure, refuse, store, ◌>>=◌}
use Rattle.volume.specs.declared.Geometry.{Geometry}
use Rattle.volume.specs.declared.Volume.{Volume}
use Rattle.inode.specs.declared.Inode.{Inode}
use Rattle.inode.specs.declared.InodeAttr.{InodeAttr}
use Rattle.inode.specs.declared.InodeType.{InodeType}
use Rattle.inode.specs.declared.Shape.{Shape}
use Rattle.inode.specs.Shape.{type_of}
use Rattle.inode.specs.Kind.{kind_of, attr_of}
use Rattle.inode_record.specs.Record.{inode_of, inode_store}
use Rattle.inode_run.specs.Find.{find_inode}
use Rattle.balloc.specs.Calls.{writing}
use Rattle.books.specs.Work.{given}
use Rattle.refusal.specs.declared.Refusal.{Refusal}

-- the record with the type that it has, and with the wanted permission, owners, times and flags; all else stays
unfoldable pub changed : Inode → InodeAttr → Inode
changed v a =
    record {
      mode = v.mode / 4096 * 4096 + a.perm % 4096;
      nlink = v.nlink;
      uid = a.uid;
      gid = a.gid;
      blksize = v.blksize;
      size = v.size;
      blocks = v.blocks;
      times = a.times;
      generation = v.generation;
      kernflags = v.kernflags;
      flags = a.flags;
      extsize = v.extsize;
      extb = v.extb;
      direct = v.direct;
      indirect = v.indirect;
      modrev = v.modrev;
      ignored = v.ignored;
      ckhash = v.ckhash;
      spare = v.spare;
    }

-- stored whole, as the Rust stores it; the answer is what the new record says
unfoldable pub modify_at : Geometry → ℕ → ℕ → InodeType → InodeAttr → Act InodeAttr
modify_at geo i at k a = λ img.
    (store (inode_store geo.order at (changed (inode_of geo.order at img) a)) >>= (λ _. pure (attr_of i k (changed (inode_of geo.order at img) a)))) img

-- a kind that has no name is damage
abbrev pub by_kind : Geometry → ℕ → ℕ → InodeAttr → Option InodeType → Act InodeAttr
by_kind geo i at a (Some k) = modify_at geo i at k a
by_kind geo i at a None = refuse Damaged

unfoldable pub modify_for : Geometry → ℕ → InodeAttr → Act InodeAttr
modify_for geo i a = λ img. given (find_inode geo img i) (λ s. by_kind geo i s.at a (kind_of (type_of s.shape.mode))) img

-- "Order: 97 for an unsound volume, 30, .. numbers, the inode (22), kind"
unfoldable pub inode_modify : Volume → ℕ → InodeAttr → Act InodeAttr
inode_modify vol i a = writing vol (λ geo. modify_for geo i a)

-- the code's answer
abbrev pub modified_out : Result InodeAttr Refusal → Out InodeAttr
modified_out (Ok a) = got a
modified_out (Err e) = refused e
