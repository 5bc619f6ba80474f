-- `blk_choose` meets its contract: the groups passed have nothing to give. Assumes nothing.
use Rattle.std.proofs.Common.{sym, ◌∙◌, rules}
use Rattle.balloc_give.proofs.GiveLaws.{choose-start, choose-hit, choose-miss, choose-end}
use Rattle.balloc_give.proofs.blk_choose.Goals as goal

pub loop-g-init : goal.loop-g-init
loop-g-init c = choose-start _ _

pub returns-in-Some : goal.returns-in-Some
returns-in-Some c =
    sym (choose-hit _ _ c.loop-g.g _ _ c.loop-g-test.true (sym c.blk_in_group.ensures ∙ c.in-Some.is)) ∙ c.loop-g.invariant

pub loop-g-preserved : goal.loop-g-preserved
loop-g-preserved c =
    sym (choose-miss _ _ c.loop-g.g _ c.loop-g-test.true (sym c.blk_in_group.ensures ∙ c.in_default.is)) ∙ c.loop-g.invariant

pub returns : goal.returns
returns c = sym (choose-end _ _ c.loop-g.g _ c.loop-g-test.false) ∙ c.loop-g.invariant
