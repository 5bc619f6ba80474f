-- Laws of mknod and mkdir: their tests, and what they then leave. Assumes nothing.
use Rattle.std.specs.Prelude.{Ok, Err}
use mathlib.Core.Path.{◌≡◌, sym, ap, ◌∙◌}
use mathlib.Core.Bool.{Bool, true, false}
use mathlib.Core.List.{List}
use Prim.Native.Nat.{ℕ, ◌<◌}
use lib.ListN.{length}
use Rattle.refusal.specs.declared.Refusal.{Refusal}
use Rattle.refusal.specs.declared.Refusal.TheVariants.{Damaged, ReadOnly}
use Rattle.store.specs.Act.{Out, got, refused, Left, leaves}
use Rattle.volume.specs.declared.Geometry.{Geometry}
use Rattle.volume.specs.declared.Volume.{Volume}
use Rattle.sound.specs.Test.{taken_of}
use Rattle.frame.specs.Frame.{Frame}
use Rattle.inode.specs.declared.Inode.{Inode}
use Rattle.inode.specs.declared.InodeAttr.{InodeAttr}
use Rattle.inode.specs.declared.InodeType.{InodeType}
use Rattle.inode.specs.declared.InodeType.TheVariants.{Directory}
use Rattle.inode.specs.declared.Times.{Times}
use Rattle.ialloc_give.specs.Give.{new_inode}
use Rattle.stages.specs.Stages.{in_order}
use Rattle.dircall.proofs.CallLaws.{judged-work, judged-stop, call-unsound, call-read-only, call-taken}
use Rattle.dirmake.specs.Make.{make_node, make_dir}
use Rattle.mknod_judge.specs.Make.{make_stages}
use Rattle.mknod_judge.proofs.PassedLaws.{make-passed}
use Rattle.mknod.specs.Make.{mknod_for, mkdir_for, mknod_call, mkdir_call}
use Rattle.refusal.specs.Refusal.{damage}

-- a name that passes is short
pub name-few : (geo : Geometry) (img : List ℕ) (d : ℕ) (name : List ℕ) (raises : Bool) → Frame geo img → {o : Out (Unit {0})} → o ≡ in_order (make_stages geo img d name raises) → o ≡ got (tt {0}) → length name < 256
name-few geo img d name raises fr q h = (make-passed geo img d name raises fr (sym q ∙ h)).few

-- ---- mknod

module _ (d : ℕ) (name : List ℕ) (kind : InodeType) (perm uid gid : ℕ) (t : Times) where
  module _ (geo : Geometry) (img : List ℕ) where
    pub mknod-free : in_order (make_stages geo img d name false) ≡ got (tt {0}) → {new : Inode} → new ≡ new_inode geo kind perm uid gid t
        → leaves (make_node geo d name kind new) img ≡ leaves (mknod_for d name kind perm uid gid t geo) img
    unfolding mknod_for
    mknod-free h e =
        ap (λ (new : Inode). leaves (make_node geo d name kind new) img) e
        ∙ judged-work (λ x. in_order (make_stages geo x d name false)) (make_node geo d name kind (new_inode geo kind perm uid gid t)) img h

    pub mknod-refused : {e : Refusal} → in_order (make_stages geo img d name false) ≡ refused e → ◌≡◌ {A = Left InodeAttr} (img, refused e) (leaves (mknod_for d name kind perm uid gid t geo) img)
    unfolding mknod_for
    mknod-refused h = judged-stop (λ x. in_order (make_stages geo x d name false)) (make_node geo d name kind (new_inode geo kind perm uid gid t)) img h

  module _ (vol : Volume) (img : List ℕ) where
    pub mknod-unsound : taken_of img ≡ Err damage → ◌≡◌ {A = Left InodeAttr} (img, refused Damaged) (leaves (mknod_call vol d name kind perm uid gid t) img)
    unfolding mknod_call
    mknod-unsound e = call-unsound vol (mknod_for d name kind perm uid gid t) img e

    module _ (geo : Geometry) (v : taken_of img ≡ Ok geo) where
      pub mknod-read-only : vol.writable ≡ false → ◌≡◌ {A = Left InodeAttr} (img, refused ReadOnly) (leaves (mknod_call vol d name kind perm uid gid t) img)
      unfolding mknod_call
      mknod-read-only w = call-read-only vol (mknod_for d name kind perm uid gid t) img geo v w

      pub mknod-taken : vol.writable ≡ true → {s : Times} → s ≡ t → leaves (mknod_for d name kind perm uid gid s geo) img ≡ leaves (mknod_call vol d name kind perm uid gid t) img
      unfolding mknod_call
      mknod-taken w e = ap (λ (s : Times). leaves (mknod_for d name kind perm uid gid s geo) img) e ∙ call-taken vol (mknod_for d name kind perm uid gid t) img geo v w

-- ---- mkdir

module _ (d : ℕ) (name : List ℕ) (perm uid gid : ℕ) (t : Times) where
  module _ (geo : Geometry) (img : List ℕ) where
    pub mkdir-free : in_order (make_stages geo img d name true) ≡ got (tt {0}) → {new : Inode} → new ≡ new_inode geo Directory perm uid gid t
        → leaves (make_dir geo d name new) img ≡ leaves (mkdir_for d name perm uid gid t geo) img
    unfolding mkdir_for
    mkdir-free h e =
        ap (λ (new : Inode). leaves (make_dir geo d name new) img) e
        ∙ judged-work (λ x. in_order (make_stages geo x d name true)) (make_dir geo d name (new_inode geo Directory perm uid gid t)) img h

    pub mkdir-refused : {e : Refusal} → in_order (make_stages geo img d name true) ≡ refused e → ◌≡◌ {A = Left InodeAttr} (img, refused e) (leaves (mkdir_for d name perm uid gid t geo) img)
    unfolding mkdir_for
    mkdir-refused h = judged-stop (λ x. in_order (make_stages geo x d name true)) (make_dir geo d name (new_inode geo Directory perm uid gid t)) img h

  module _ (vol : Volume) (img : List ℕ) where
    pub mkdir-unsound : taken_of img ≡ Err damage → ◌≡◌ {A = Left InodeAttr} (img, refused Damaged) (leaves (mkdir_call vol d name perm uid gid t) img)
    unfolding mkdir_call
    mkdir-unsound e = call-unsound vol (mkdir_for d name perm uid gid t) img e

    module _ (geo : Geometry) (v : taken_of img ≡ Ok geo) where
      pub mkdir-read-only : vol.writable ≡ false → ◌≡◌ {A = Left InodeAttr} (img, refused ReadOnly) (leaves (mkdir_call vol d name perm uid gid t) img)
      unfolding mkdir_call
      mkdir-read-only w = call-read-only vol (mkdir_for d name perm uid gid t) img geo v w

      pub mkdir-taken : vol.writable ≡ true → {s : Times} → s ≡ t → leaves (mkdir_for d name perm uid gid s geo) img ≡ leaves (mkdir_call vol d name perm uid gid t) img
      unfolding mkdir_call
      mkdir-taken w e = ap (λ (s : Times). leaves (mkdir_for d name perm uid gid s geo) img) e ∙ call-taken vol (mkdir_for d name perm uid gid t) img geo v w
