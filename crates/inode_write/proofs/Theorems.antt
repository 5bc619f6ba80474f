-- What is relied on of writing: what is judged stores nothing, and the layout stays at every cut. Assumes nothing.
use Rattle.std.specs.Prelude.{Ok}
use mathlib.Core.Path.{◌≡◌, refl}
use mathlib.Core.List.{List, []}
use Prim.Native.Nat.{ℕ}
use lib.ListN.{length}
use Rattle.refusal.specs.declared.Refusal.{Refusal}
use Rattle.refusal.specs.declared.Refusal.TheVariants.{ReadOnly}
use Rattle.store.specs.Act.{Out, got, refused, pure, refuse, ◌>>=◌, Always}
use Rattle.store.proofs.AlwaysLaws.{always-choose, always-refuse}
use Rattle.volume.specs.declared.Geometry.{Geometry}
use Rattle.volume.specs.declared.Volume.{Volume}
use Rattle.sound.specs.Test.{taken_of}
use Rattle.frame.specs.Frame.{Frame}
use Rattle.inode_run.specs.declared.Spot.{Spot}
use Rattle.inode_run.specs.Find.{find_inode}
use Rattle.inode_run.proofs.FindLaws.{find-named}
use Rattle.books.specs.Books.{Steady}
use Rattle.books.specs.Work.{given}
use Rattle.books.proofs.SteadyLaws.{steady-refl}
use Rattle.books.proofs.KeepLaws.{Keeps, keeps-bind, keeps-pure, keeps_given, keeps-read}
use Rattle.balloc.specs.Calls.{entering, writing}
use Rattle.inode_read.proofs.JudgeLaws.{taken-frame}
use Rattle.inode_setblock.specs.Set.{InTable}
use Rattle.inode_setblock.proofs.SetKeeps.{always_reads}
use Rattle.inode_write.specs.Write.{write_at}
use Rattle.inode_write.specs.Calls.{write_judged, write_found, inode_write}
use Rattle.inode_write.proofs.BlocksKeep.{keeps_write}
use Rattle.inode_write.proofs.CallLaws.{in_table}

-- "Up to there nothing is stored"
pub judged-first : (geo : Geometry) (s : Spot) (off : ℕ) (buf img : List ℕ) (e : Refusal) → write_judged geo s off (length buf) img ≡ refused e → write_found geo s off buf img ≡ record { stores = []; out = refused e }
unfolding write_found refuse
judged-first geo s off buf img e j = rw j refl

-- a writing call may be followed by another: cut after any store, or refused, it leaves a volume laid out as it was
pub keeps_found : (geo : Geometry) (s : Spot) → InTable geo s.at → (off : ℕ) (buf : List ℕ) → Keeps geo (write_found geo s off buf)
unfolding write_found
keeps_found geo s t off buf =
    keeps-read geo (λ x. given (write_judged geo s off (length buf) x) (λ _. write_at geo s.at s.shape.size off buf >>= (λ _. pure (length buf))))
    (λ x. keeps_given geo (write_judged geo s off (length buf) x) (λ _. keeps-bind geo (keeps_write geo s.at t s.shape.size off buf) (λ _. keeps-pure geo (length buf))))

-- of an inode that its number names
pub write_keeps : (geo : Geometry) (img : List ℕ) → Frame geo img → (i : ℕ) (s : Spot) → find_inode geo img i ≡ got s → (off : ℕ) (buf : List ℕ) → Always (Steady geo img) (write_found geo s off buf) img
write_keeps geo img fr i s e off buf = keeps_found geo s (in_table geo img i s.at (find-named geo img fr i s e).place) off buf img img (steady-refl geo img fr)

-- the public call, on a volume that is taken
pub call_keeps : (vol : Volume) (i off : ℕ) (buf img : List ℕ) (geo : Geometry) → taken_of img ≡ Ok geo → Always (Steady geo img) (inode_write vol i off buf) img
unfolding inode_write writing
call_keeps vol i off buf img geo t =
    always_reads (λ x. entering vol (λ geo. λ img. given (find_inode geo img i) (λ s. write_found geo s off buf) img) (taken_of x))
    (rw t (always-choose vol.writable (λ _. always_reads (λ x. given (find_inode geo x i) (λ s. write_found geo s off buf)) (go (find_inode geo img i) refl)) (λ _. always-refuse ℕ ReadOnly (steady-refl geo img fr))))
  where
    fr : Frame geo img
    fr = taken-frame img geo t

    go : (o : Out Spot) → find_inode geo img i ≡ o → Always (Steady geo img) (given o (λ s. write_found geo s off buf)) img
    go (got s) e = write_keeps geo img fr i s e off buf
    go (refused r) e = always-refuse ℕ r (steady-refl geo img fr)
