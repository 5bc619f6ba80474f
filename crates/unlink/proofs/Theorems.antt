-- What is relied on of unlink: what is judged stores nothing, and the layout stays at every cut. Assumes nothing.
use Rattle.std.specs.Prelude.{Ok}
use mathlib.Core.Path.{◌≡◌, ◌∙◌}
use mathlib.Core.Bool.{true}
use mathlib.Core.List.{List, []}
use Prim.Native.Nat.{ℕ}
use Rattle.refusal.specs.declared.Refusal.{Refusal}
use Rattle.store.specs.Act.{refused, Always}
use Rattle.volume.specs.declared.Geometry.{Geometry}
use Rattle.volume.specs.declared.Volume.{Volume}
use Rattle.sound.specs.Test.{taken_of}
use Rattle.balloc.proofs.CallLaws.{when-taken}
use Rattle.books.specs.Books.{Steady}
use Rattle.books.specs.Work.{given}
use Rattle.books.proofs.KeepLaws.{Keeps, keeps-read, keeps_given}
use Rattle.stages.specs.Stages.{in_order}
use Rattle.dircall.proofs.CallLaws.{judged-nothing, call-steady}
use Rattle.dirtake.specs.Take.{take_name}
use Rattle.dirtake.proofs.TakeLaws.{keeps-take-name}
use Rattle.unlink_judge.specs.Unlink.{unlink_stages}
use Rattle.unlink.specs.Unlink.{unlink_for, unlink_call}

module _ (vol : Volume) (d : ℕ) (name : List ℕ) where
  -- "Up to there nothing is stored"
  pub judged-first : (img : List ℕ) (geo : Geometry) → taken_of img ≡ Ok geo → vol.writable ≡ true → (e : Refusal) → in_order (unlink_stages geo img d name) ≡ refused e
      → unlink_call vol d name img ≡ record { stores = []; out = refused e }
  unfolding unlink_call unlink_for
  judged-first img geo t w e h = when-taken vol (unlink_for d name) img geo t w ∙ judged-nothing (λ x. in_order (unlink_stages geo x d name)) (take_name geo d name) img h

  -- ---- cut after any store, or refused, it leaves a volume laid out as it was

  pub keeps-unlink-for : (geo : Geometry) → Keeps geo (unlink_for d name geo)
  unfolding unlink_for
  keeps-unlink-for geo =
      keeps-read geo (λ x. given (in_order (unlink_stages geo x d name)) (λ _. take_name geo d name))
      (λ x. keeps_given geo (in_order (unlink_stages geo x d name)) (λ _. keeps-take-name geo d name))

  -- the public call, on a volume that is taken
  pub call_keeps : (img : List ℕ) (geo : Geometry) → taken_of img ≡ Ok geo → Always (Steady geo img) (unlink_call vol d name) img
  unfolding unlink_call
  call_keeps img geo t = call-steady vol (unlink_for d name) img geo t (λ _. keeps-unlink-for geo)
