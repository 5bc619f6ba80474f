-- 01, "Inodes and mapping": an inode's kind, and what is told of an inode. Assumes nothing: these are definitions.
use Rattle.std.specs.Prelude.{ℕ, ◌%◌, eqb, Option, Some, None}
use Rattle.inode.specs.declared.Inode.{Inode}
use Rattle.inode.specs.declared.InodeAttr.{InodeAttr}
use Rattle.inode.specs.declared.InodeType.{InodeType}
use Rattle.inode.specs.declared.InodeType.TheVariants.{NamedPipe, CharDevice, Directory, BlockDevice, RegularFile, Symlink, Socket}
use Rattle.inode.specs.Size.{pick}

-- the kind's number: in the mode's high bits, and in a directory record
unfoldable pub type_number : InodeType → ℕ
type_number NamedPipe = 1
type_number CharDevice = 2
type_number Directory = 4
type_number BlockDevice = 6
type_number RegularFile = 8
type_number Symlink = 10
type_number Socket = 12

-- the kind that a number names, if it names one
unfoldable pub kind_of : ℕ → Option InodeType
kind_of t =
    pick (eqb t 1) (Some NamedPipe)
    (pick (eqb t 2) (Some CharDevice)
    (pick (eqb t 4) (Some Directory)
    (pick (eqb t 6) (Some BlockDevice)
    (pick (eqb t 8) (Some RegularFile)
    (pick (eqb t 10) (Some Symlink)
    (pick (eqb t 12) (Some Socket)
    None))))))

-- what `inode_attr` answers; the permissions are the mode's low 12 bits, and the times are told as they are stored
unfoldable pub attr_of : ℕ → InodeType → Inode → InodeAttr
attr_of inr k v =
    record {
      inr = record { 0 = inr };
      perm = v.mode % 4096;
      kind = k;
      size = v.size;
      blocks = v.blocks;
      times = v.times;
      nlink = v.nlink;
      uid = v.uid;
      gid = v.gid;
      generation = v.generation;
      blksize = v.blksize;
      flags = v.flags;
      kernflags = v.kernflags;
      extsize = v.extsize;
    }
