-- Setting a file's size changes no byte but of its record, its lists, the maps and the counts: at every cut, finished or refused. Assumes nothing.
use Rattle.std.specs.Prelude.{Ok}
use mathlib.Core.Path.{◌≡◌, refl}
use mathlib.Core.List.{List, [], ◌∷◌}
use Prim.Native.Nat.{ℕ, ◌<◌}
use lib.Dec.{ltb}
use borrow.Author.Tests.{ltb-true}
use Rattle.refusal.specs.declared.Refusal.TheVariants.{ReadOnly}
use Rattle.store.specs.Store.{Store, apply}
use Rattle.store.specs.Where.{none, more, Range, StoreIn, KeptBut}
use Rattle.store.specs.Act.{Out, got, refused, Always}
use Rattle.store.proofs.OnlyLaws.{kept-but-refl, kept-but_trans, kept-but-more, kept-but-store}
use Rattle.store.proofs.AlwaysLaws.{always-all, always-bind, always-refuse, always-store, always-choose, always_more}
use Rattle.volume.specs.declared.Geometry.{Geometry}
use Rattle.volume.specs.declared.Volume.{Volume}
use Rattle.volume.specs.Volume.{inode_at}
use Rattle.sound.specs.Test.{taken_of}
use Rattle.frame.specs.Frame.{Frame, InodeIs}
use Rattle.inode.specs.declared.Shape.{Shape}
use Rattle.inode.specs.Places.{size_write}
use Rattle.inode.proofs.PlaceLaws.{size-inside}
use Rattle.mapping.specs.Zones.{zone_start}
use Rattle.mapping.specs.Mapping.{per_list}
use Rattle.mapping.proofs.MappingLaws.{per-some}
use Rattle.inode_run.specs.declared.Spot.{Spot}
use Rattle.inode_run.specs.Find.{find_inode}
use Rattle.inode_run.proofs.FindLaws.{find-named}
use Rattle.books.specs.Books.{Book}
use Rattle.books.specs.Work.{given}
use Rattle.balloc.specs.Calls.{entering, writing}
use Rattle.balloc.proofs.CallLaws.{taken-frame}
use Rattle.ialloc_give.proofs.MarkLaws.{always_at}
use Rattle.inode_truncate.specs.Truncate.{keep_of, shrunk_store, truncate_work}
use Rattle.truncate.specs.Call.{truncate_judged, judged_work, truncate_for, inode_truncate}
use Rattle.truncate.proofs.CallLaws.{judged-keep}
use Rattle.truncate.proofs.Theorems.{shrunk-inside}
use Rattle.touched.specs.Touched.{TruncateByte, of_work, of_record}
use Rattle.touched.proofs.PlaceLaws.{alike_refl}
use Rattle.touched.proofs.ShrinkLaws.{shrunk-all}

module _ (geo : Geometry) (img : List ℕ) (fr : Frame geo img) (i at : ℕ) (is : InodeIs geo img i at) (s : Shape) (new : ℕ) where
  abbrev Touched : List ℕ → Type 0
  Touched = KeptBut (TruncateByte geo img at) img

  into : {x : List ℕ} → Touched x → (st : Store) → StoreIn (Range at 256) st → Touched (apply st x)
  into {x} k st o = kept-but_trans k (kept-but-more (λ j r. of_record r) (kept-but-store o x))

  work-touches : (new < s.size → keep_of geo new < zone_start (per_list geo) 3) → Always Touched (truncate_work geo at s new) img
  unfolding truncate_work
  work-touches l =
      always-choose (ltb new s.size)
      (λ e. let p = always_more (λ x a. kept-but-more (λ j b. of_work b) a.but) (shrunk-all geo img fr i at is s (keep_of geo new) (per-some geo img fr) (l (ltb-true _ _ e)) img (alike_refl geo (Book geo img) img fr)) in
      always-bind p (λ h q. let t = always-all p in always-store (shrunk_store geo at new h) t (into t (shrunk_store geo at new h) (shrunk-inside geo at new h))))
      (λ e. let t = kept-but-refl (TruncateByte geo img at) img in always-store (size_write geo.order at new ∷ []) t (into t (size_write geo.order at new ∷ []) (more (size-inside geo.order at new) none)))

  judged-touches : Always Touched (judged_work geo at s new) img
  unfolding judged_work
  judged-touches = always_at (λ x. given (truncate_judged geo at s new x) (λ _. truncate_work geo at s new)) img (go (truncate_judged geo at s new img) refl)
    where
      go : (o : Out (Unit {0})) → truncate_judged geo at s new img ≡ o → Always Touched (given o (λ _. truncate_work geo at s new)) img
      go (got u) e = work-touches (judged-keep geo at s new img e)
      go (refused r) e = always-refuse (Unit {0}) r (kept-but-refl (TruncateByte geo img at) img)

-- the public call, on a volume that is taken
pub call_touches : (vol : Volume) (i new : ℕ) (img : List ℕ) (geo : Geometry) → taken_of img ≡ Ok geo → Always (KeptBut (TruncateByte geo img (inode_at geo i)) img) (inode_truncate vol i new) img
unfolding inode_truncate writing truncate_for
call_touches vol i new img geo t =
    always_at (λ x. entering vol (λ geo. truncate_for geo i new) (taken_of x)) img
    (rw t (always-choose vol.writable (λ _. always_at (λ x. given (find_inode geo x i) (λ s. judged_work geo s.at s.shape new)) img (go (find_inode geo img i) refl)) (λ _. always-refuse (Unit {0}) ReadOnly same)))
  where
    fr : Frame geo img
    fr = taken-frame img geo t

    same : KeptBut (TruncateByte geo img (inode_at geo i)) img img
    same = kept-but-refl (TruncateByte geo img (inode_at geo i)) img

    go : (o : Out Spot) → find_inode geo img i ≡ o → Always (KeptBut (TruncateByte geo img (inode_at geo i)) img) (given o (λ s. judged_work geo s.at s.shape new)) img
    go (got s) e = let p = (find-named geo img fr i s e).place in rw (← p.is) (judged-touches geo img fr i s.at p s.shape new)
    go (refused r) e = always-refuse (Unit {0}) r same
