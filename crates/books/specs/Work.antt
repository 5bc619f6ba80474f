-- 01: "In the work a 22 from a stored address or index is 97". Assumes nothing: these are definitions.
use Rattle.std.specs.Prelude.{List, ℕ}
use Rattle.refusal.specs.declared.Refusal.{Refusal}
use Rattle.refusal.specs.declared.Refusal.TheVariants.{Damaged}
use Rattle.store.specs.Act.{Out, got, refused, Run, Act, refuse}

abbrev pub damaged_out : {A : Type 0} → Out A → Out A
damaged_out (got a) = got a
damaged_out (refused e) = refused Damaged

-- a call made in the work: what it refuses is damage
unfoldable pub or_damaged : {A : Type 0} → Act A → Act A
or_damaged m img = record { stores = (m img).stores; out = damaged_out (m img).out }

-- the work goes on with what was judged, or ends there
abbrev pub given : {A B : Type 0} → Out A → (A → Act B) → Act B
given (got a) f = f a
given (refused e) f = refuse e
