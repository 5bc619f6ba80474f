-- `is_dots` meets its contract. Assumes nothing.
use borrow.Author.Rules.{rules}
use Rattle.dirother.proofs.OtherLaws.{dots-one, dots-two, dots-other}
use Rattle.dirother.proofs.is_dots.Goals as goal

pub returns-then-e-eq1 : goal.returns-then-e-eq1
returns-then-e-eq1 c = dots-one _ _ _ c.requires c.if-e-eq1.true

pub returns-then-e-eq2 : goal.returns-then-e-eq2
returns-then-e-eq2 c = dots-two _ _ _ c.requires c.if-e-eq2.true

pub returns : goal.returns
returns c = dots-other _ _ _ c.requires c.if-e-eq1.false c.if-e-eq2.false
