-- `first_clear_bit` meets its contract: no bit of the bytes passed is clear. Assumes nothing.
use mathlib.Core.Path.{sym, ◌∙◌}
use native.Mathlib.Nat.{sub-zero}
use native.Mathlib.Omega.{arith}
use Rattle.bits.proofs.UptoLaws.{first-turn, first-stop, first-end}
use Rattle.bits.proofs.CountLaws.{first-clear-is}
use Rattle.bits_find.proofs.first_clear_bit.Goals as goal

pub loop-f-init : goal.loop-f-init
loop-f-init c = (omega arith, λ l. omega arith, rw sub-zero)

pub clear_in_byte-requires : goal.clear_in_byte-requires
clear_in_byte-requires c = (c.loop-f.invariant.1 (omega arith), omega arith, omega arith, omega arith)

pub returns-in-Some : goal.returns-in-Some
returns-in-Some c =
    sym (first-clear-is _ _ _ ∙ c.loop-f.invariant.2 ∙ first-stop _ _ c.loop-f.f _ (omega arith) (omega arith) (sym c.in-Some.ensures))

pub loop-f-preserved : goal.loop-f-preserved
loop-f-preserved c = (
  omega arith,
  λ u. omega (arith, c.loop-f.invariant.1 (omega arith)),
  c.loop-f.invariant.2 ∙ first-turn _ _ c.loop-f.f _ (omega arith) (omega arith) (sym c.in_default.ensures),
)

pub returns : goal.returns
returns c = sym (first-clear-is _ _ _ ∙ c.loop-f.invariant.2 ∙ first-end _ _ c.loop-f.f (omega arith))
