-- 01, "Inodes and mapping": the attributes of an inode's own record. Assumes nothing: these are definitions.
use Rattle.std.specs.Prelude.{List, ℕ, Option, Some, None, Result, Ok, Err}
use Rattle.refusal.specs.declared.Refusal.TheVariants.{Damaged}
use Rattle.store.specs.Act.{Out, got, refused}
use Rattle.inode.specs.declared.Inode.{Inode}
use Rattle.inode.specs.declared.InodeAttr.{InodeAttr}
use Rattle.inode.specs.Shape.{type_of}
use Rattle.inode.specs.Kind.{kind_of, attr_of}
use Rattle.inode_record.specs.Record.{inode_of}
use Rattle.inode_run.specs.Judge.{and_then}
use Rattle.inode_read.specs.Calls.{Place, place_in}
use Rattle.inode.specs.declared.InodeType.{InodeType}
use Rattle.refusal.specs.declared.Refusal.{Refusal}

-- a kind that has no name is damage: "each place with no other number where the Rust would panic"
abbrev pub attr_for : ℕ → Inode → Option InodeType → Out InodeAttr
attr_for i ino (Some k) = got (attr_of i k ino)
attr_for i ino None = refused Damaged

-- of the inode i that stands at p
unfoldable pub attr_at : List ℕ → ℕ → Place → Out InodeAttr
attr_at img i p = attr_for i (inode_of p.geo.order p.spot.at img) (kind_of (type_of p.spot.shape.mode))

unfoldable pub inode_attr : List ℕ → ℕ → Out InodeAttr
inode_attr img i = and_then (place_in img i) (attr_at img i)

-- the code's answer
abbrev pub attr_answer : Out InodeAttr → Result InodeAttr Refusal
attr_answer (got a) = Ok a
attr_answer (refused e) = Err e
