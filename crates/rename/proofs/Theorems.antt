-- What rename promises beyond its equation: a judged refusal stores nothing, onto itself nothing is stored, and the layout is kept at every cut. Assumes nothing.
use Rattle.std.specs.Prelude.{Result, Ok, Err}
use mathlib.Core.Path.{◌≡◌, refl, sym, ◌∙◌}
use mathlib.Core.Bool.{Bool, true}
use mathlib.Core.List.{List, []}
use Prim.Native.Nat.{ℕ}
use Rattle.refusal.specs.declared.Refusal.{Refusal}
use Rattle.store.specs.Act.{got, refused, pure, refuse, Always}
use Rattle.volume.specs.declared.Geometry.{Geometry}
use Rattle.volume.specs.declared.Volume.{Volume}
use Rattle.sound.specs.Test.{taken_of}
use Rattle.books.specs.Books.{Steady}
use Rattle.books.proofs.KeepLaws.{Keeps, keeps-pure, keeps-refuse, keeps-read}
use Rattle.stages.specs.Stages.{in_order}
use Rattle.dircall.proofs.CallLaws.{call-steady}
use Rattle.dirfile.specs.Seek.{here}
use Rattle.dirmove.proofs.MoveLaws.{keeps-move}
use Rattle.rename_judge.specs.declared.Verdict.{Verdict}
use Rattle.rename_judge.specs.declared.Verdict.TheVariants as Verdict
use Rattle.rename_judge.specs.Rename.{Asked, Facts, same, facts_of, rename_stages, verdict_of}
use Rattle.rename_judge.proofs.VerdictLaws.{stopped}
use Rattle.rename_judge.proofs.ToldLaws.{told-passed-same}
use Rattle.rename.specs.Rename.{moving, rename_for, rename_call}

-- "Up to there nothing is stored": the refusal of the first stage that fails
pub judged-first : (a : Asked) (geo : Geometry) (img : List ℕ) (e : Refusal) → in_order (rename_stages geo img a) ≡ refused e → rename_for a geo img ≡ record { stores = []; out = refused e }
unfolding rename_for refuse
judged-first a geo img e h = let q : Err e ≡ verdict_of geo img a = stopped geo img a e h in rw (← q)

-- "Same directory and name: nothing stored, inode returned, before 17 is tested"
pub onto_itself : (a : Asked) (geo : Geometry) (img : List ℕ) (i : ℕ) → in_order (rename_stages geo img a) ≡ got (tt {0}) → same a ≡ true → (facts_of geo img a).moved ≡ here i → rename_for a geo img ≡ record { stores = []; out = got i }
unfolding rename_for pure
onto_itself a geo img i p s m = rw (told-passed-same geo img a p s i m)

-- cut after any store, or refused, it leaves a volume laid out as it was
keeps_verdict : (geo : Geometry) (a : Asked) (v : Result Verdict Refusal) → Keeps geo (moving geo a v)
keeps_verdict geo a (Ok (Verdict.Same i)) = keeps-pure geo i
keeps_verdict geo a (Ok (Verdict.Move i kind clears)) = keeps-move geo a.to a.new a.from a.old i kind clears
keeps_verdict geo a (Err e) = keeps-refuse geo ℕ e

keeps_rename : (geo : Geometry) (a : Asked) → Keeps geo (rename_for a geo)
unfolding rename_for
keeps_rename geo a = keeps-read geo (λ x. moving geo a (verdict_of geo x a)) (λ x. keeps_verdict geo a (verdict_of geo x a))

pub call_keeps : (vol : Volume) (a : Asked) (img : List ℕ) (geo : Geometry) → taken_of img ≡ Ok geo → Always (Steady geo img) (rename_call vol a) img
unfolding rename_call
call_keeps vol a img geo t = call-steady vol (rename_for a) img geo t (λ _. keeps_rename geo a)
