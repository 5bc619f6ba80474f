-- Laws of a public call on a volume that is judged first and then works: what it leaves, and that it keeps the layout where its work does. Assumes nothing.
use Rattle.std.specs.Prelude.{Ok, Err}
use mathlib.Core.Path.{◌≡◌}
use mathlib.Core.Bool.{true, false}
use mathlib.Core.List.{List, []}
use Prim.Native.Nat.{ℕ}
use Rattle.refusal.specs.declared.Refusal.{Refusal}
use Rattle.refusal.specs.declared.Refusal.TheVariants.{Damaged, ReadOnly}
use Rattle.store.specs.Act.{Out, got, refused, Act, refuse, Left, leaves, Always}
use Rattle.store.proofs.StoreLaws.{apply_all-none}
use Rattle.store.proofs.ActLaws.{leaves-refuse}
use Rattle.store.proofs.AlwaysLaws.{always-choose, always-refuse}
use Rattle.volume.specs.declared.Geometry.{Geometry}
use Rattle.volume.specs.declared.Volume.{Volume}
use Rattle.sound.specs.Test.{taken_of}
use Rattle.balloc.specs.Calls.{entering, writing}
use Rattle.balloc.proofs.CallLaws.{taken-frame, when-unsound, when-read-only, when-taken}
use Rattle.books.specs.Books.{Steady}
use Rattle.books.specs.Work.{given}
use Rattle.books.proofs.SteadyLaws.{steady-refl}
use Rattle.books.proofs.KeepLaws.{Keeps}
use Rattle.ialloc_give.proofs.MarkLaws.{always_at}
use Rattle.refusal.specs.Refusal.{damage}

-- ---- work that is judged first

module _ {A : Type 0} (judge : List ℕ → Out (Unit {0})) (work : Act A) (img : List ℕ) where
  pub judged-work : judge img ≡ got (tt {0}) → leaves work img ≡ leaves (λ x. given (judge x) (λ _. work) x) img
  unfolding leaves
  judged-work h = rw h

  pub judged-stop : {e : Refusal} → judge img ≡ refused e → ◌≡◌ {A = Left A} (img, refused e) (leaves (λ x. given (judge x) (λ _. work) x) img)
  unfolding leaves
  judged-stop {e} h = rw h (leaves-refuse e img)

  -- "Up to there nothing is stored"
  pub judged-nothing : {e : Refusal} → judge img ≡ refused e → given (judge img) (λ _. work) img ≡ record { stores = []; out = refused e }
  unfolding refuse
  judged-nothing h = rw h

-- ---- the call around it

module _ {A : Type 0} (vol : Volume) (f : Geometry → Act A) (img : List ℕ) where
  pub call-unsound : taken_of img ≡ Err damage → ◌≡◌ {A = Left A} (img, refused Damaged) (leaves (writing vol f) img)
  unfolding leaves
  call-unsound e = rw (when-unsound vol f img e, apply_all-none img)

  module _ (geo : Geometry) (t : taken_of img ≡ Ok geo) where
    pub call-read-only : vol.writable ≡ false → ◌≡◌ {A = Left A} (img, refused ReadOnly) (leaves (writing vol f) img)
    unfolding leaves
    call-read-only w = rw (when-read-only vol f img geo t w, apply_all-none img)

    pub call-taken : vol.writable ≡ true → leaves (f geo) img ≡ leaves (writing vol f) img
    unfolding leaves
    call-taken w = rw (when-taken vol f img geo t w)

    -- cut after any store, or refused, it leaves a volume laid out as it was, where its work does
    pub call-steady : (vol.writable ≡ true → Keeps geo (f geo)) → Always (Steady geo img) (writing vol f) img
    unfolding writing
    call-steady p =
        let s = steady-refl geo img (taken-frame img geo t) in
        always_at (λ x. entering vol f (taken_of x)) img
        (rw t (always-choose vol.writable (λ w. p w img img s) (λ _. always-refuse A ReadOnly s)))
