-- `first_free_in` meets its contract: no block passed is free. Assumes nothing.
use mathlib.Core.Path.{sym, ◌∙◌}
use native.Mathlib.Omega.{arith}
use Rattle.bits.proofs.UptoLaws.{first-here, first_next, first-end}
use Rattle.bits.proofs.CountLaws.{block-place}
use Rattle.bits_find.proofs.first_free_in.Goals as goal

pub isfreeblock-requires : goal.isfreeblock-requires
isfreeblock-requires c =
    (c.requires.0, block-place c.args.frag c.args.at c.loop-h.h c.args.to _ c.requires.0 (omega arith) c.requires.1)

pub returns-then-isfreeblock : goal.returns-then-isfreeblock
returns-then-isfreeblock c =
    sym (c.loop-h.invariant ∙ first-here _ _ c.loop-h.h (omega arith) (sym c.isfreeblock.ensures ∙ c.if-isfreeblock.true))

pub loop-h-preserved : goal.loop-h-preserved
loop-h-preserved c =
    c.loop-h.invariant ∙ first_next _ _ c.loop-h.h (omega arith) (sym c.isfreeblock.ensures ∙ c.if-isfreeblock.false)

pub returns : goal.returns
returns c = sym (c.loop-h.invariant ∙ first-end _ _ c.loop-h.h (omega arith))
