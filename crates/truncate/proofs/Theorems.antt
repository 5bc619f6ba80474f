-- What is relied on of setting a size: what is judged stores nothing, and the layout stays at every cut. Assumes nothing.
use Rattle.std.specs.Prelude.{Ok}
use mathlib.Core.Path.{◌≡◌, refl}
use mathlib.Core.List.{List, [], ◌∷◌}
use Prim.Native.Nat.{ℕ, ◌-◌, ◌*◌, ◌<◌}
use native.Mathlib.Omega.{arith}
use lib.Dec.{ltb}
use borrow.Author.Tests.{ltb-true}
use Rattle.field.proofs.Laws.{length-zeros}
use Rattle.refusal.specs.declared.Refusal.{Refusal}
use Rattle.refusal.specs.declared.Refusal.TheVariants.{ReadOnly}
use Rattle.store.specs.Store.{Store}
use Rattle.store.specs.Where.{none, more, StoreIn, WriteIn, Range}
use Rattle.store.specs.Act.{Out, got, refused, refuse, store, Always}
use Rattle.store.proofs.AlwaysLaws.{always-choose, always-refuse}
use Rattle.volume.specs.declared.Geometry.{Geometry}
use Rattle.volume.specs.declared.Volume.{Volume}
use Rattle.volume.specs.Volume.{inode_at}
use Rattle.sound.specs.Test.{taken_of}
use Rattle.frame.specs.Frame.{Frame}
use Rattle.inode.specs.declared.Shape.{Shape}
use Rattle.inode.specs.Places.{size_write}
use Rattle.inode.proofs.PlaceLaws.{size-inside, blocks-inside}
use Rattle.mapping.specs.Zones.{zone_start}
use Rattle.mapping.specs.Mapping.{per_list}
use Rattle.mapping.proofs.MappingLaws.{per-some}
use Rattle.inode_run.specs.declared.Spot.{Spot}
use Rattle.inode_run.specs.Find.{find_inode}
use Rattle.inode_run.proofs.FindLaws.{find-named, number-is}
use Rattle.books.specs.Books.{Steady}
use Rattle.books.specs.Work.{given}
use Rattle.books.proofs.SteadyLaws.{steady-refl}
use Rattle.books.proofs.KeepLaws.{Keeps, keeps-bind, keeps-refuse, keeps-read}
use Rattle.balloc.specs.Calls.{entering, writing}
use Rattle.balloc.proofs.CallLaws.{taken-frame}
use Rattle.ialloc_give.proofs.MarkLaws.{record_steady, always_at, keeps-store}
use Rattle.inode_truncate.specs.Truncate.{keep_of, first_gone, gone_write, shrunk_store, truncate_work}
use Rattle.inode_truncate.proofs.ZoneLaws.{keeps-shrink}
use Rattle.truncate.specs.Call.{truncate_judged, judged_work, truncate_for, inode_truncate}
use Rattle.truncate.proofs.CallLaws.{judged-keep}

-- "Up to there nothing is stored"
pub judged-first : (geo : Geometry) (at : ℕ) (s : Shape) (new : ℕ) (img : List ℕ) (e : Refusal) → truncate_judged geo at s new img ≡ refused e → judged_work geo at s new img ≡ record { stores = []; out = refused e }
unfolding judged_work refuse
judged-first geo at s new img e j = rw j refl

-- ---- the record

gone-inside : (at k : ℕ) → WriteIn (Range at 256) (gone_write at k)
unfolding gone_write
gone-inside at k = λ j lo hi. (omega (arith, lo), omega (arith, rw (length-zeros ((15 - k) * 8)) at hi))

pub shrunk-inside : (geo : Geometry) (at new held : ℕ) → StoreIn (Range at 256) (shrunk_store geo at new held)
unfolding shrunk_store
shrunk-inside geo at new held = more (size-inside geo.order at new) (more (blocks-inside geo.order at held) (more (gone-inside at (first_gone geo (keep_of geo new))) none))

-- ---- the work: cut after any store, or refused, it leaves a volume laid out as it was

-- of a record that may be stored into
module _ (geo : Geometry) (some : 0 < per_list geo) (at : ℕ) (into : (s : Store) → StoreIn (Range at 256) s → Keeps geo (store s)) where
  keeps-truncate : (s : Shape) (new : ℕ) → (new < s.size → keep_of geo new < zone_start (per_list geo) 3) → Keeps geo (truncate_work geo at s new)
  unfolding truncate_work
  keeps-truncate s new k start img st =
      always-choose (ltb new s.size)
      (λ e. keeps-bind geo (keeps-shrink geo at s some (keep_of geo new) (k (ltb-true _ _ e))) (λ h. into (shrunk_store geo at new h) (shrunk-inside geo at new h)) start img st)
      (λ e. into (size_write geo.order at new ∷ []) (more (size-inside geo.order at new) none) start img st)

  pub keeps-judged : (s : Shape) (new : ℕ) → Keeps geo (judged_work geo at s new)
  unfolding judged_work
  keeps-judged s new = keeps-read geo (λ x. given (truncate_judged geo at s new x) (λ _. truncate_work geo at s new)) (λ x. go x (truncate_judged geo at s new x) refl)
    where
      go : (x : List ℕ) (o : Out (Unit {0})) → truncate_judged geo at s new x ≡ o → Keeps geo (given o (λ _. truncate_work geo at s new))
      go x (got u) e = keeps-truncate s new (judged-keep geo at s new x e)
      go x (refused r) e = keeps-refuse geo (Unit {0}) r

-- of an inode that its number names
pub truncate_keeps : (geo : Geometry) (img : List ℕ) → Frame geo img → (i : ℕ) (s : Spot) → find_inode geo img i ≡ got s → (new : ℕ) → Always (Steady geo img) (judged_work geo s.at s.shape new) img
truncate_keeps geo img fr i s e new =
    let n = find-named geo img fr i s e in
    let l = (number-is geo i n.number).1 in
    rw n.place.is (keeps-judged geo (per-some geo img fr) (inode_at geo i) (λ w o. keeps-store geo (λ _. w) (λ x f. record_steady geo x f i l o)) s.shape new img img (steady-refl geo img fr))

-- the public call, on a volume that is taken
pub call_keeps : (vol : Volume) (i new : ℕ) (img : List ℕ) (geo : Geometry) → taken_of img ≡ Ok geo → Always (Steady geo img) (inode_truncate vol i new) img
unfolding inode_truncate writing truncate_for
call_keeps vol i new img geo t =
    always_at (λ x. entering vol (λ geo. truncate_for geo i new) (taken_of x)) img
    (rw t (always-choose vol.writable (λ _. always_at (λ x. given (find_inode geo x i) (λ s. judged_work geo s.at s.shape new)) img (go (find_inode geo img i) refl)) (λ _. always-refuse (Unit {0}) ReadOnly (steady-refl geo img fr))))
  where
    fr : Frame geo img
    fr = taken-frame img geo t

    go : (o : Out Spot) → find_inode geo img i ≡ o → Always (Steady geo img) (given o (λ s. judged_work geo s.at s.shape new)) img
    go (got s) e = truncate_keeps geo img fr i s e new
    go (refused r) e = always-refuse (Unit {0}) r (steady-refl geo img fr)
