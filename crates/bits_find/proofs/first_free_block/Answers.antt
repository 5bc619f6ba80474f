-- `first_free_block` meets its contract: no block of the bytes passed is free. Assumes nothing.
use mathlib.Core.Path.{sym, ◌∙◌}
use native.Mathlib.Nat.{mul-zero, sub-zero}
use native.Mathlib.Omega.{arith}
use Rattle.bits.proofs.UptoLaws.{first-turn, first-stop, first-end}
use Rattle.bits.proofs.BitsLaws.{block-ends}
use Rattle.bits.proofs.CountLaws.{walk-byte, walk-on, first-free-is}
use Rattle.bits_find.proofs.first_free_block.Goals as goal

pub loop-h-init : goal.loop-h-init
loop-h-init c = (omega arith, λ l. mul-zero _, rw sub-zero)

pub first_in_byte-requires : goal.first_in_byte-requires
first_in_byte-requires c =
    walk-byte c.args.frag c.loop-h.i c.loop-h.h c.per_byte-per.result _ c.args.nb c.requires.0 c.per_byte-per.ensures.0 (c.loop-h.invariant.1 (omega arith)) c.min-to.ensures c.args.at _ (omega arith) c.requires.1

pub returns-in-Some : goal.returns-in-Some
returns-in-Some c =
    sym (first-free-is _ _ _ _ ∙ c.loop-h.invariant.2 ∙ first-stop _ _ c.loop-h.h _ (omega arith) (omega arith) (sym c.in-Some.ensures))

pub overflow_add-i : goal.overflow_add-i
overflow_add-i c = omega (arith, c.loop-h.invariant.1 (omega arith), block-ends c.args.frag c.loop-h.h c.args.nb (omega arith))

pub loop-h-preserved : goal.loop-h-preserved
loop-h-preserved c = (
  omega arith,
  λ u. walk-on c.args.frag c.loop-h.i c.loop-h.h c.per_byte-per.result _ c.args.nb c.requires.0 c.per_byte-per.ensures.0 (c.loop-h.invariant.1 (omega arith)) c.min-to.ensures u,
  c.loop-h.invariant.2 ∙ first-turn _ _ c.loop-h.h _ (omega arith) (omega arith) (sym c.in_default.ensures),
)

pub returns : goal.returns
returns c = sym (first-free-is _ _ _ _ ∙ c.loop-h.invariant.2 ∙ first-end _ _ c.loop-h.h (omega arith))
