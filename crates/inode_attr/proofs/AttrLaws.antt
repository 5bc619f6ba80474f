-- Laws of the attributes of an inode. Assumes nothing.
use Rattle.std.specs.Prelude.{Some, None}
use mathlib.Core.Path.{◌≡◌}
use mathlib.Core.List.{List}
use Prim.Native.Nat.{ℕ}
use Rattle.refusal.specs.declared.Refusal.{Refusal}
use Rattle.refusal.specs.declared.Refusal.TheVariants.{Damaged}
use Rattle.store.specs.Act.{got, refused}
use Rattle.inode.specs.declared.Inode.{Inode}
use Rattle.inode.specs.declared.InodeType.{InodeType}
use Rattle.inode.specs.Shape.{type_of}
use Rattle.inode.specs.Kind.{kind_of, attr_of}
use Rattle.inode_record.specs.Record.{inode_of}
use Rattle.inode_read.specs.Calls.{Place, place_in}
use Rattle.inode_attr.specs.Attr.{attr_at, inode_attr}

module _ (img : List ℕ) (i : ℕ) where
  pub attr-refused : (e : Refusal) → place_in img i ≡ refused e → inode_attr img i ≡ refused e
  unfolding inode_attr
  attr-refused e h = rw h

  module _ (p : Place) (h : place_in img i ≡ got p) where
    pub attr-got : (ino : Inode) → ino ≡ inode_of p.geo.order p.spot.at img → (k : InodeType) → kind_of (type_of p.spot.shape.mode) ≡ Some k → inode_attr img i ≡ got (attr_of i k ino)
    unfolding inode_attr attr_at
    attr-got ino e k q = rw (h, q, ← e)

    pub attr-nameless : kind_of (type_of p.spot.shape.mode) ≡ None → inode_attr img i ≡ refused Damaged
    unfolding inode_attr attr_at
    attr-nameless q = rw (h, q)
