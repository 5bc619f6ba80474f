-- `first_clear_in` meets its contract: no bit passed is clear. Assumes nothing.
use mathlib.Core.Bool.{not}
use mathlib.Core.Path.{sym, ap, ◌∙◌}
use native.Mathlib.Omega.{arith}
use Rattle.bits.proofs.UptoLaws.{first-here, first_next, first-end}
use Rattle.bits.proofs.BitsLaws.{clear-is}
use Rattle.bits_find.proofs.first_clear_in.Goals as goal

pub returns-then-not-isfreefrag : goal.returns-then-not-isfreefrag
returns-then-not-isfreefrag c =
    sym (c.loop-f.invariant ∙ first-here _ _ c.loop-f.f (omega arith) (clear-is _ _ _ ∙ ap not (sym c.isfreefrag.ensures) ∙ ap not c.if-not-isfreefrag.true))

pub loop-f-preserved : goal.loop-f-preserved
loop-f-preserved c =
    c.loop-f.invariant ∙ first_next _ _ c.loop-f.f (omega arith) (clear-is _ _ _ ∙ ap not (sym c.isfreefrag.ensures) ∙ ap not c.if-not-isfreefrag.false)

pub returns : goal.returns
returns c = sym (c.loop-f.invariant ∙ first-end _ _ c.loop-f.f (omega arith))
