-- mknod by a mode's type, of a type that a kind has and of one that none has, and the words of what it answers. Assumes nothing.
use Rattle.std.specs.Prelude.{Option, Some, None, Result, Ok, Err}
use mathlib.Core.Path.{◌≡◌, refl, sym, ap, ◌∙◌}
use mathlib.Core.List.{List}
use Prim.Native.Nat.{ℕ}
use Rattle.refusal.specs.declared.Refusal.{Refusal}
use Rattle.refusal.specs.declared.Refusal.TheVariants.{Invalid}
use Rattle.store.specs.Act.{refused, Left, leaves}
use Rattle.store.proofs.ActLaws.{leaves-refuse}
use Rattle.volume.specs.declared.Volume.{Volume}
use Rattle.inode.specs.declared.InodeAttr.{InodeAttr}
use Rattle.inode.specs.declared.InodeType.{InodeType}
use Rattle.inode.specs.declared.Times.{Times}
use Rattle.dirmake.specs.Make.{made_out}
use Rattle.mknod.specs.Make.{mknod_call}
use Rattle.boundary_inode.specs.Words.{attr_words}
use Rattle.boundary_file.specs.Words.{changed_words}
use Rattle.boundary_name.specs.Words.{node_by}

module _ (vol : Volume) (d : ℕ) (name : List ℕ) (perm uid gid : ℕ) (t : Times) (img : List ℕ) {k : (Option InodeType)} where
  pub node-kind : {i : InodeType} → k ≡ Some i → leaves (mknod_call vol d name i perm uid gid t) img ≡ leaves (node_by vol d name perm uid gid t k) img
  node-kind e = ap (λ (k : Option InodeType). leaves (node_by vol d name perm uid gid t k) img) (sym e)

  pub node-nameless : k ≡ None → ◌≡◌ {A = Left InodeAttr} (img, refused Invalid) (leaves (node_by vol d name perm uid gid t k) img)
  node-nameless e = leaves-refuse Invalid img ∙ ap (λ (k : Option InodeType). leaves (node_by vol d name perm uid gid t k) img) (sym e)

pub attr-made : (m : Result InodeAttr Refusal) → attr_words m ≡ changed_words (made_out m)
attr-made (Ok a) = refl
attr-made (Err e) = refl
