-- `inode_choose` meets its contract: the groups passed have nothing to give. Assumes nothing.
use Rattle.std.proofs.Common.{sym, ◌∙◌, rules}
use Rattle.ialloc_give.proofs.ChooseLaws.{choose-start, choose-hit, choose-miss, choose-end}
use Rattle.ialloc_give.proofs.inode_choose.Goals as goal

pub loop-g-init : goal.loop-g-init
loop-g-init c = choose-start _ _

pub returns-in-Some : goal.returns-in-Some
returns-in-Some c =
    choose-hit _ _ c.loop-g.g c.loop-g.invariant _ c.loop-g-test.true (sym c.inode_in_group.ensures ∙ c.in-Some.is)

pub loop-g-preserved : goal.loop-g-preserved
loop-g-preserved c =
    choose-miss _ _ c.loop-g.g c.loop-g.invariant c.loop-g-test.true (sym c.inode_in_group.ensures ∙ c.in_default.is)

pub returns : goal.returns
returns c = choose-end _ _ c.loop-g.g c.loop-g.invariant c.loop-g-test.false
