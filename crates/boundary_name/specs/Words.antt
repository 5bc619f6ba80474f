-- What crosses to C of the calls that change directories: 0 for an answer and otherwise the refusal's number, beside it what is answered. Assumes nothing: these are definitions.
use Rattle.std.specs.Prelude.{List, ℕ, Option, Some, None}
use Rattle.refusal.specs.Refusal.{number_of}
use Rattle.refusal.specs.declared.Refusal.TheVariants.{Invalid}
use Rattle.store.specs.Act.{Out, got, refused, Act, refuse}
use Rattle.volume.specs.declared.Volume.{Volume}
use Rattle.inode.specs.declared.InodeAttr.{InodeAttr}
use Rattle.inode.specs.declared.Times.{Times}
use Rattle.mknod.specs.Make.{mknod_call}
use Rattle.inode.specs.declared.InodeType.{InodeType}

-- mknod by a mode's type; one that no kind has is 22, and nothing is stored
abbrev pub node_by : Volume → ℕ → List ℕ → ℕ → ℕ → ℕ → Times → Option InodeType → Act InodeAttr
node_by vol d name perm uid gid t (Some k) = mknod_call vol d name k perm uid gid t
node_by vol d name perm uid gid t None = refuse Invalid

-- the number, and the inode
abbrev pub gone_words : Out ℕ → ℕ × ℕ
gone_words (got i) = (0, i)
gone_words (refused e) = (number_of e, 0)
