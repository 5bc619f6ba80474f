-- `clear_used` meets its contract. Assumes nothing.
use borrow.Author.Rules.{rules}
use mathlib.Core.Path.{refl}
use Rattle.bits.proofs.UptoLaws.{as_bit-false}
use Rattle.ialloc_free.proofs.FreeLaws.{clear-made, clear-bad}
use Rattle.ialloc_free.proofs.clear_used.Goals as goal

pub returns-then-isfreefrag : goal.returns-then-isfreefrag
returns-then-isfreefrag c =
    clear-made _ _ _ _ _ _ c.used_at-at.ensures.0 c.isfreefrag.ensures c.if-isfreefrag.true (as_bit-false refl) c.mark_used.ensures

pub returns : goal.returns
returns c =
    clear-bad _ _ _ _ _ _ c.used_at-at.ensures.0 c.isfreefrag.ensures c.if-isfreefrag.false
