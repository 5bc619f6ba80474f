-- What `inode_modify` leaves follows from the wanted attributes alone, and its answer crosses as attributes do. Assumes nothing.
use Rattle.std.specs.Prelude.{Result, Ok, Err}
use mathlib.Core.Path.{◌≡◌, refl, ap}
use mathlib.Core.List.{List}
use Prim.Native.Nat.{ℕ}
use Rattle.store.specs.Act.{leaves}
use Rattle.volume.specs.declared.Volume.{Volume}
use Rattle.inode.specs.declared.InodeAttr.{InodeAttr}
use Rattle.refusal.specs.declared.Refusal.{Refusal}
use Rattle.inode_modify.specs.Modify.{inode_modify, modified_out}
use Rattle.boundary_inode.specs.Words.{attr_words}
use Rattle.boundary_file.specs.Words.{changed_words}

pub same-wanted : (vol : Volume) (i : ℕ) (img : List ℕ) {a b : InodeAttr} → a ≡ b → leaves (inode_modify vol i a) img ≡ leaves (inode_modify vol i b) img
same-wanted vol i img e = ap (λ (x : InodeAttr). leaves (inode_modify vol i x) img) e

pub attr-changed : (m : Result InodeAttr Refusal) → attr_words m ≡ changed_words (modified_out m)
attr-changed (Ok a) = refl
attr-changed (Err e) = refl
