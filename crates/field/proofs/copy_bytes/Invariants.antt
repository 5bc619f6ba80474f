-- `field::copy_bytes` meets its contract: after i turns the first i bytes of the run are written. Assumes nothing.
use mathlib.Core.Path.{◌≡◌}
use lib.ListN.{length, take}
use Rattle.field.specs.Field.{part, put}
use Rattle.field.proofs.copy_bytes.Given as goal

abbrev pub invariant-loop-i : goal.invariant-loop-i
invariant-loop-i l = (length l.dst ≡ length l.initial.dst) × (l.dst ≡ put l.at (take l.i (part l.n l.from l.src)) l.initial.dst)
