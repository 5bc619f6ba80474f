-- What is relied on of changing attributes: no byte but the record's changes, and the layout stays at every cut. Assumes nothing.
use Rattle.std.specs.Prelude.{Option, Some, None, Ok}
use mathlib.Core.Path.{◌≡◌, refl}
use mathlib.Core.List.{List}
use Prim.Native.Nat.{ℕ, ◌*◌, ◌<◌}
use Rattle.refusal.specs.declared.Refusal.TheVariants.{Damaged, ReadOnly}
use Rattle.store.specs.Where.{Only, Range}
use Rattle.store.specs.Act.{Out, got, refused, pure, refuse, store, ◌>>=◌, Always}
use Rattle.store.proofs.OnlyLaws.{only-pure, only-refuse, only_store, only-bind, only-choose}
use Rattle.store.proofs.AlwaysLaws.{always-choose, always-refuse}
use Rattle.volume.specs.declared.Geometry.{Geometry}
use Rattle.volume.specs.declared.Volume.{Volume}
use Rattle.volume.specs.Volume.{inode_at}
use Rattle.sound.specs.Test.{taken_of}
use Rattle.frame.specs.Frame.{Frame}
use Rattle.inode.specs.declared.InodeAttr.{InodeAttr}
use Rattle.inode.specs.declared.InodeType.{InodeType}
use Rattle.inode.specs.Shape.{type_of}
use Rattle.inode.specs.Kind.{kind_of, attr_of}
use Rattle.inode_record.specs.Record.{inode_of, inode_store}
use Rattle.inode_record.proofs.RecordLaws.{inode-inside}
use Rattle.inode_run.specs.declared.Spot.{Spot}
use Rattle.inode_run.specs.Find.{find_inode}
use Rattle.inode_run.proofs.FindLaws.{find-named, number-is}
use Rattle.books.specs.Books.{Steady}
use Rattle.books.specs.Work.{given}
use Rattle.books.proofs.SteadyLaws.{steady-refl}
use Rattle.books.proofs.KeepLaws.{Keeps, keeps-bind, keeps-pure, keeps-refuse, keeps-read}
use Rattle.balloc.specs.Calls.{entering, writing}
use Rattle.balloc.proofs.CallLaws.{taken-frame}
use Rattle.ialloc_give.proofs.MarkLaws.{record_steady, always_at, keeps-store}
use Rattle.inode_modify.specs.Modify.{changed, modify_at, by_kind, modify_for, inode_modify}

-- ---- no byte but the record's changes

module _ (geo : Geometry) (i : ℕ) (a : InodeAttr) (img : List ℕ) where
  modify-only : (k : InodeType) → Only (Range (inode_at geo i) 256) (modify_at geo i (inode_at geo i) k a img).stores
  unfolding modify_at
  modify-only k =
      let new = changed (inode_of geo.order (inode_at geo i) img) a in
      only-bind (store (inode_store geo.order (inode_at geo i) new)) (λ _. pure (attr_of i k new)) img (only_store (inode-inside geo.order (inode_at geo i) new) img) (λ _ _. only-pure _ _)

  kind-only : (k : Option InodeType) → Only (Range (inode_at geo i) 256) (by_kind geo i (inode_at geo i) a k img).stores
  kind-only (Some k) = modify-only k
  kind-only None = only-refuse InodeAttr Damaged img

-- the public call, finished or refused, on a volume that is taken
pub call_only : (vol : Volume) (i : ℕ) (a : InodeAttr) (img : List ℕ) (geo : Geometry) → taken_of img ≡ Ok geo → Only (Range (inode_at geo i) 256) (inode_modify vol i a img).stores
unfolding inode_modify writing modify_for
call_only vol i a img geo t =
    rw t (only-choose vol.writable (modify_for geo i a) (refuse ReadOnly) img (λ _. go (find_inode geo img i) refl) (λ _. only-refuse InodeAttr ReadOnly img))
  where
    go : (o : Out Spot) → find_inode geo img i ≡ o → Only (Range (inode_at geo i) 256) (given o (λ s. by_kind geo i s.at a (kind_of (type_of s.shape.mode))) img).stores
    go (got s) e = rw (find-named geo img (taken-frame img geo t) i s e).place.is (kind-only geo i a img (kind_of (type_of s.shape.mode)))
    go (refused r) e = only-refuse InodeAttr r img

-- ---- the layout stays

-- cut after any store, or refused, it leaves a volume laid out as it was
module _ (geo : Geometry) (i : ℕ) (l : i < geo.ncg * geo.ipg) (a : InodeAttr) where
  keeps-modify : (k : InodeType) → Keeps geo (modify_at geo i (inode_at geo i) k a)
  unfolding modify_at
  keeps-modify k =
      keeps-read geo (λ x. store (inode_store geo.order (inode_at geo i) (changed (inode_of geo.order (inode_at geo i) x) a)) >>= (λ _. pure (attr_of i k (changed (inode_of geo.order (inode_at geo i) x) a))))
      (λ x. keeps-bind geo (keeps-store geo (λ _. inode_store geo.order (inode_at geo i) (changed (inode_of geo.order (inode_at geo i) x) a)) (λ img fr. record_steady geo img fr i l (inode-inside geo.order (inode_at geo i) (changed (inode_of geo.order (inode_at geo i) x) a))))
      (λ _. keeps-pure geo (attr_of i k (changed (inode_of geo.order (inode_at geo i) x) a))))

  keeps-kind : (k : Option InodeType) → Keeps geo (by_kind geo i (inode_at geo i) a k)
  keeps-kind (Some k) = keeps-modify k
  keeps-kind None = keeps-refuse geo InodeAttr Damaged

-- the public call, on a volume that is taken
pub call_keeps : (vol : Volume) (i : ℕ) (a : InodeAttr) (img : List ℕ) (geo : Geometry) → taken_of img ≡ Ok geo → Always (Steady geo img) (inode_modify vol i a) img
unfolding inode_modify writing modify_for
call_keeps vol i a img geo t =
    always_at (λ x. entering vol (λ geo. modify_for geo i a) (taken_of x)) img
    (rw t (always-choose vol.writable (λ _. always_at (λ x. given (find_inode geo x i) (λ s. by_kind geo i s.at a (kind_of (type_of s.shape.mode)))) img (go (find_inode geo img i) refl)) (λ _. always-refuse InodeAttr ReadOnly (steady-refl geo img fr))))
  where
    fr : Frame geo img
    fr = taken-frame img geo t

    go : (o : Out Spot) → find_inode geo img i ≡ o → Always (Steady geo img) (given o (λ s. by_kind geo i s.at a (kind_of (type_of s.shape.mode)))) img
    go (got s) e =
        let n = find-named geo img fr i s e in
        rw n.place.is (keeps-kind geo i (number-is geo i n.number).1 a (kind_of (type_of s.shape.mode)) img img (steady-refl geo img fr))
    go (refused r) e = always-refuse InodeAttr r (steady-refl geo img fr)
