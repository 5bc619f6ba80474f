-- 01, "Numbers given back": judging before the work, one test after another; up to there nothing is stored. Assumes nothing: these are definitions.
use Rattle.std.specs.Prelude.{Bool, true, false, List, ℕ, Result, Ok, Err}
use Rattle.refusal.specs.declared.Refusal.{Refusal}
use Rattle.refusal.specs.declared.Refusal.TheVariants.{Damaged}
use Rattle.store.specs.Act.{Out, got, refused}
use Rattle.volume.specs.declared.Geometry.{Geometry}
use Rattle.sound.specs.Test.{taken_of}
use Rattle.refusal.specs.declared.Damage.{Damage}

-- what fails refuses; else the next is judged
abbrev pub ask : {A : Type 0} → Bool → Refusal → Out A → Out A
ask true e next = next
ask false e next = refused e

-- what was found is judged further; a refusal stands
abbrev pub and_then : {A B : Type 0} → Out A → (A → Out B) → Out B
and_then (got a) f = f a
and_then (refused e) f = refused e

-- "Order: 97 for an unsound volume, .."
abbrev pub on_sound : {A : Type 0} → (Geometry → Out A) → Result Geometry Damage → Out A
on_sound f (Ok geo) = f geo
on_sound f (Err harm) = refused Damaged

unfoldable pub reading : {A : Type 0} → (Geometry → Out A) → List ℕ → Out A
reading f img = on_sound f (taken_of img)
