-- What rmdir promises beyond its equation: a judged refusal stores nothing, and the layout is kept at every cut. Assumes nothing.
use Rattle.std.specs.Prelude.{Result, Ok, Err}
use mathlib.Core.Path.{◌≡◌, refl}
use mathlib.Core.List.{List, []}
use Prim.Native.Nat.{ℕ}
use Rattle.refusal.specs.declared.Refusal.{Refusal}
use Rattle.store.specs.Act.{Out, got, refused, refuse, Always}
use Rattle.volume.specs.declared.Geometry.{Geometry}
use Rattle.volume.specs.declared.Volume.{Volume}
use Rattle.sound.specs.Test.{taken_of}
use Rattle.books.specs.Books.{Steady}
use Rattle.books.proofs.KeepLaws.{Keeps, keeps-refuse, keeps-read}
use Rattle.stages.specs.Stages.{in_order}
use Rattle.dircall.proofs.CallLaws.{call-steady}
use Rattle.dirfile.specs.Seek.{Sought, here, nowhere, hurt}
use Rattle.rmdir_judge.specs.Rmdir.{gone_in, rmdir_stages, removal_of}
use Rattle.rmdir.specs.Rmdir.{removing, rmdir_for, rmdir_call}
use Rattle.rmdir.proofs.RmdirLaws.{keeps-remove}

refused_so : (s : Sought ℕ) (e : Refusal) → removal_of s (refused e) ≡ Err e
refused_so (here i) e = refl
refused_so nowhere e = refl
refused_so hurt e = refl

-- "Up to there nothing is stored": the refusal of the first stage that fails
pub judged-first : (d : ℕ) (name : List ℕ) (geo : Geometry) (img : List ℕ) (e : Refusal) → in_order (rmdir_stages geo img d name) ≡ refused e → rmdir_for d name geo img ≡ record { stores = []; out = refused e }
unfolding rmdir_for refuse
judged-first d name geo img e h = rw (h, refused_so (gone_in geo img d name) e)

-- cut after any store, or refused, it leaves a volume laid out as it was
keeps_removal : (geo : Geometry) (d : ℕ) (name : List ℕ) (r : Result ℕ Refusal) → Keeps geo (removing geo d name r)
keeps_removal geo d name (Ok i) = keeps-remove geo i d name
keeps_removal geo d name (Err e) = keeps-refuse geo (Unit {0}) e

keeps_rmdir : (geo : Geometry) (d : ℕ) (name : List ℕ) → Keeps geo (rmdir_for d name geo)
unfolding rmdir_for
keeps_rmdir geo d name =
    keeps-read geo (λ x. removing geo d name (removal_of (gone_in geo x d name) (in_order (rmdir_stages geo x d name))))
    (λ x. keeps_removal geo d name (removal_of (gone_in geo x d name) (in_order (rmdir_stages geo x d name))))

pub call_keeps : (vol : Volume) (d : ℕ) (name img : List ℕ) (geo : Geometry) → taken_of img ≡ Ok geo → Always (Steady geo img) (rmdir_call vol d name) img
unfolding rmdir_call
call_keeps vol d name img geo t = call-steady vol (rmdir_for d name) img geo t (λ _. keeps_rmdir geo d name)
