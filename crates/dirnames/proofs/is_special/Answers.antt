-- `is_special` meets its contract. Assumes nothing.
use Rattle.dirnames.proofs.NamesLaws.{special-one, special-two, special-not}
use Rattle.dirnames.proofs.is_special.Goals as goal

pub returns-then-name-eq1 : goal.returns-then-name-eq1
returns-then-name-eq1 c = special-one _ c.if-name-eq1.true

pub returns-then-name-eq2 : goal.returns-then-name-eq2
returns-then-name-eq2 c = special-two _ c.if-name-eq2.true

pub returns : goal.returns
returns c = special-not _ c.if-name-eq1.false c.if-name-eq2.false
