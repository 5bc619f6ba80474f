-- Laws of unlink: its tests, and what it then leaves. Assumes nothing.
use Rattle.std.specs.Prelude.{Ok, Err}
use mathlib.Core.Path.{◌≡◌}
use mathlib.Core.Bool.{true, false}
use mathlib.Core.List.{List}
use Prim.Native.Nat.{ℕ}
use Rattle.refusal.specs.declared.Refusal.{Refusal}
use Rattle.refusal.specs.declared.Refusal.TheVariants.{Damaged, ReadOnly}
use Rattle.store.specs.Act.{got, refused, Left, leaves}
use Rattle.volume.specs.declared.Geometry.{Geometry}
use Rattle.volume.specs.declared.Volume.{Volume}
use Rattle.sound.specs.Test.{taken_of}
use Rattle.stages.specs.Stages.{in_order}
use Rattle.dircall.proofs.CallLaws.{judged-work, judged-stop, call-unsound, call-read-only, call-taken}
use Rattle.dirtake.specs.Take.{take_name}
use Rattle.unlink_judge.specs.Unlink.{unlink_stages}
use Rattle.unlink.specs.Unlink.{unlink_for, unlink_call}
use Rattle.refusal.specs.Refusal.{damage}

module _ (d : ℕ) (name : List ℕ) where
  -- ---- on a volume that is taken

  module _ (geo : Geometry) (img : List ℕ) where
    pub unlink-free : in_order (unlink_stages geo img d name) ≡ got (tt {0}) → leaves (take_name geo d name) img ≡ leaves (unlink_for d name geo) img
    unfolding unlink_for
    unlink-free h = judged-work (λ x. in_order (unlink_stages geo x d name)) (take_name geo d name) img h

    pub unlink-refused : {e : Refusal} → in_order (unlink_stages geo img d name) ≡ refused e → ◌≡◌ {A = Left (Unit {0})} (img, refused e) (leaves (unlink_for d name geo) img)
    unfolding unlink_for
    unlink-refused h = judged-stop (λ x. in_order (unlink_stages geo x d name)) (take_name geo d name) img h

  -- ---- the public call

  module _ (vol : Volume) (img : List ℕ) where
    pub unlink-unsound : taken_of img ≡ Err damage → ◌≡◌ {A = Left (Unit {0})} (img, refused Damaged) (leaves (unlink_call vol d name) img)
    unfolding unlink_call
    unlink-unsound e = call-unsound vol (unlink_for d name) img e

    module _ (geo : Geometry) (t : taken_of img ≡ Ok geo) where
      pub unlink-read-only : vol.writable ≡ false → ◌≡◌ {A = Left (Unit {0})} (img, refused ReadOnly) (leaves (unlink_call vol d name) img)
      unfolding unlink_call
      unlink-read-only w = call-read-only vol (unlink_for d name) img geo t w

      pub unlink-taken : vol.writable ≡ true → leaves (unlink_for d name geo) img ≡ leaves (unlink_call vol d name) img
      unfolding unlink_call
      unlink-taken w = call-taken vol (unlink_for d name) img geo t w
