-- What is relied on of mknod and mkdir: a name that lookup finds is 17 and stores nothing, what is judged stores nothing, and the layout stays at every cut. Assumes nothing.
use Rattle.std.specs.Prelude.{Result, Ok, Err}
use mathlib.Core.Path.{◌≡◌, refl, sym, ap, ◌∙◌}
use mathlib.Core.Bool.{Bool, true, false}
use mathlib.Core.List.{List, []}
use Prim.Native.Nat.{ℕ}
use native.Mathlib.Omega.{arith}
use Rattle.refusal.specs.declared.Refusal.{Refusal}
use Rattle.refusal.specs.declared.Refusal.TheVariants.{Exists}
use Rattle.store.specs.Act.{got, refused, Run, Always}
use Rattle.volume.specs.declared.Geometry.{Geometry}
use Rattle.volume.specs.declared.Volume.{Volume}
use Rattle.sound.specs.Test.{taken_of}
use Rattle.inode.specs.declared.InodeAttr.{InodeAttr}
use Rattle.inode.specs.declared.InodeType.{InodeType}
use Rattle.inode.specs.declared.InodeType.TheVariants.{Directory}
use Rattle.inode.specs.declared.Times.{Times}
use Rattle.balloc.proofs.CallLaws.{taken-frame, when-taken}
use Rattle.books.specs.Books.{Steady}
use Rattle.books.specs.Work.{given}
use Rattle.books.proofs.KeepLaws.{Keeps, keeps-read, keeps_given}
use Rattle.ialloc_give.specs.Give.{new_inode}
use Rattle.stages.specs.Stages.{in_order}
use Rattle.dirnames.specs.Names.{taken}
use Rattle.dirlookup.specs.Lookup.{dir_lookup}
use Rattle.dirlookup.proofs.LookupLaws.{lookup-sound, lookup_unsound}
use Rattle.dircall.proofs.CallLaws.{judged-nothing, call-steady}
use Rattle.dirmake.specs.Make.{make_node, make_dir}
use Rattle.dirmake.proofs.MakeKeeps.{keeps-node, keeps-dir}
use Rattle.mknod_judge.specs.Make.{make_stages}
use Rattle.mknod_judge.proofs.Theorems.{found-refused}
use Rattle.mknod.specs.Make.{mknod_for, mkdir_for, mknod_call, mkdir_call}
use Rattle.refusal.specs.declared.Damage.{Damage}

-- ---- a name that lookup finds

-- the volume it was found on is taken, and there the name is judged 17
record Seen (img : List ℕ) (d : ℕ) (name : List ℕ) (raises : Bool) : Type 0 where
  pub geo : Geometry
  pub sound : taken_of img ≡ Ok geo
  pub judged : in_order (make_stages geo img d name raises) ≡ refused Exists

seen : (img : List ℕ) (d : ℕ) (name : List ℕ) (i : ℕ) (raises : Bool) → dir_lookup img d name ≡ got i → taken true name ≡ true → Seen img d name raises
seen img d name i raises h n = go (taken_of img) refl
  where
    go : (t : Result Geometry Damage) → taken_of img ≡ t → Seen img d name raises
    go (Err harm) e = absurd (let f = sym (lookup_unsound img d name e) ∙ h in let z : ◌≡◌ {A = ℕ} 0 1 = cc in let y : ⊥ = omega arith in y)
    go (Ok geo) e = record { geo = geo; sound = e; judged = found-refused geo img (taken-frame img geo e) d name raises n i (sym (lookup-sound img d name geo e) ∙ h) }

module _ (vol : Volume) (d : ℕ) (name : List ℕ) (kind : InodeType) (perm uid gid : ℕ) (t : Times) where
  -- "Up to there nothing is stored"
  pub judged-first : (img : List ℕ) (geo : Geometry) → taken_of img ≡ Ok geo → vol.writable ≡ true → (e : Refusal) → in_order (make_stages geo img d name false) ≡ refused e
      → mknod_call vol d name kind perm uid gid t img ≡ record { stores = []; out = refused e }
  unfolding mknod_call mknod_for
  judged-first img geo v w e h =
      when-taken vol (mknod_for d name kind perm uid gid t) img geo v w
      ∙ judged-nothing (λ x. in_order (make_stages geo x d name false)) (make_node geo d name kind (new_inode geo kind perm uid gid t)) img h

  -- the reason of the test: a form that is sent again does not stand in the outbox twice
  pub name-taken : (img : List ℕ) (i : ℕ) → dir_lookup img d name ≡ got i → vol.writable ≡ true → taken true name ≡ true
      → ((mknod_call vol d name kind perm uid gid t img).out ≡ refused Exists) × ((mknod_call vol d name kind perm uid gid t img).stores ≡ [])
  name-taken img i h w n =
      let s = seen img d name i false h n in
      let e = judged-first img s.geo s.sound w Exists s.judged in
      (ap (λ (r : Run InodeAttr). r.out) e, ap (λ (r : Run InodeAttr). r.stores) e)

  -- cut after any store, or refused, it leaves a volume laid out as it was
  pub keeps-mknod-for : (geo : Geometry) → Keeps geo (mknod_for d name kind perm uid gid t geo)
  unfolding mknod_for
  keeps-mknod-for geo =
      keeps-read geo (λ x. given (in_order (make_stages geo x d name false)) (λ _. make_node geo d name kind (new_inode geo kind perm uid gid t)))
      (λ x. keeps_given geo (in_order (make_stages geo x d name false)) (λ _. keeps-node geo d name kind (new_inode geo kind perm uid gid t)))

  -- the public call, on a volume that is taken
  pub call_keeps : (img : List ℕ) (geo : Geometry) → taken_of img ≡ Ok geo → Always (Steady geo img) (mknod_call vol d name kind perm uid gid t) img
  unfolding mknod_call
  call_keeps img geo v = call-steady vol (mknod_for d name kind perm uid gid t) img geo v (λ _. keeps-mknod-for geo)

-- ---- the same of mkdir

module _ (vol : Volume) (d : ℕ) (name : List ℕ) (perm uid gid : ℕ) (t : Times) where
  pub mkdir-judged-first : (img : List ℕ) (geo : Geometry) → taken_of img ≡ Ok geo → vol.writable ≡ true → (e : Refusal) → in_order (make_stages geo img d name true) ≡ refused e
      → mkdir_call vol d name perm uid gid t img ≡ record { stores = []; out = refused e }
  unfolding mkdir_call mkdir_for
  mkdir-judged-first img geo v w e h =
      when-taken vol (mkdir_for d name perm uid gid t) img geo v w
      ∙ judged-nothing (λ x. in_order (make_stages geo x d name true)) (make_dir geo d name (new_inode geo Directory perm uid gid t)) img h

  pub mkdir-name-taken : (img : List ℕ) (i : ℕ) → dir_lookup img d name ≡ got i → vol.writable ≡ true → taken true name ≡ true
      → ((mkdir_call vol d name perm uid gid t img).out ≡ refused Exists) × ((mkdir_call vol d name perm uid gid t img).stores ≡ [])
  mkdir-name-taken img i h w n =
      let s = seen img d name i true h n in
      let e = mkdir-judged-first img s.geo s.sound w Exists s.judged in
      (ap (λ (r : Run InodeAttr). r.out) e, ap (λ (r : Run InodeAttr). r.stores) e)

  pub keeps-mkdir-for : (geo : Geometry) → Keeps geo (mkdir_for d name perm uid gid t geo)
  unfolding mkdir_for
  keeps-mkdir-for geo =
      keeps-read geo (λ x. given (in_order (make_stages geo x d name true)) (λ _. make_dir geo d name (new_inode geo Directory perm uid gid t)))
      (λ x. keeps_given geo (in_order (make_stages geo x d name true)) (λ _. keeps-dir geo d name (new_inode geo Directory perm uid gid t)))

  pub mkdir-keeps : (img : List ℕ) (geo : Geometry) → taken_of img ≡ Ok geo → Always (Steady geo img) (mkdir_call vol d name perm uid gid t) img
  unfolding mkdir_call
  mkdir-keeps img geo v = call-steady vol (mkdir_for d name perm uid gid t) img geo v (λ _. keeps-mkdir-for geo)
