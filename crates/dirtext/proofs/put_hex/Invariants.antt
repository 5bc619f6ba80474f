-- `put_hex` meets its contract: after i turns the first i bytes are written. Assumes nothing.
use borrow.Author.Rules.{rules}
use native.Mathlib.Omega.{arith}
use mathlib.Core.Path.{◌≡◌, refl, ap, ◌∙◌}
use Prim.Native.Nat.{ℕ, ◌+◌, ◌-◌, ◌≤◌}
use lib.ListN.{length}
use Rattle.field.specs.Field.{part}
use Rattle.dirtext.specs.Text.{hex_text, wrote}
use Rattle.dirtext.proofs.TextLaws.{wrote-long, hex-start, hex-place, hex-turn}
use Rattle.dirtext.proofs.put_hex.Given as goal

abbrev pub invariant-loop-i : goal.invariant-loop-i
invariant-loop-i l = (length l.out ≡ length l.initial.out) × ((l.out, l.end) ≡ wrote l.at (hex_text (part l.i l.from l.block)) l.initial.out)
