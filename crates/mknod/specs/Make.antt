-- 01: the public calls that make a name with a new inode, mknod and mkdir. Assumes nothing: these are definitions.
use Rattle.std.specs.Prelude.{true, false, List, ℕ}
use Rattle.store.specs.Act.{Act}
use Rattle.volume.specs.declared.Geometry.{Geometry}
use Rattle.volume.specs.declared.Volume.{Volume}
use Rattle.inode.specs.declared.InodeAttr.{InodeAttr}
use Rattle.inode.specs.declared.InodeType.{InodeType}
use Rattle.inode.specs.declared.InodeType.TheVariants.{Directory}
use Rattle.inode.specs.declared.Times.{Times}
use Rattle.balloc.specs.Calls.{writing}
use Rattle.books.specs.Work.{given}
use Rattle.ialloc_give.specs.Give.{new_inode}
use Rattle.stages.specs.Stages.{in_order}
use Rattle.dirmake.specs.Make.{make_node, make_dir}
use Rattle.mknod_judge.specs.Make.{make_stages}

-- "one time passed in for all four"
abbrev pub one_time : ℕ → ℕ → Times
one_time sec nsec = record { atime = sec; mtime = sec; ctime = sec; birthtime = sec; mtimensec = nsec; atimensec = nsec; ctimensec = nsec; birthnsec = nsec }

-- ---- the calls: all that is judged is judged before any store

unfoldable pub mknod_for : ℕ → List ℕ → InodeType → ℕ → ℕ → ℕ → Times → Geometry → Act InodeAttr
mknod_for d name kind perm uid gid t geo =
    λ img. given (in_order (make_stages geo img d name false)) (λ _. make_node geo d name kind (new_inode geo kind perm uid gid t)) img

unfoldable pub mkdir_for : ℕ → List ℕ → ℕ → ℕ → ℕ → Times → Geometry → Act InodeAttr
mkdir_for d name perm uid gid t geo =
    λ img. given (in_order (make_stages geo img d name true)) (λ _. make_dir geo d name (new_inode geo Directory perm uid gid t)) img

-- "Order: 97 for an unsound volume, 30, .."
unfoldable pub mknod_call : Volume → ℕ → List ℕ → InodeType → ℕ → ℕ → ℕ → Times → Act InodeAttr
mknod_call vol d name kind perm uid gid t = writing vol (mknod_for d name kind perm uid gid t)

unfoldable pub mkdir_call : Volume → ℕ → List ℕ → ℕ → ℕ → ℕ → Times → Act InodeAttr
mkdir_call vol d name perm uid gid t = writing vol (mkdir_for d name perm uid gid t)
