-- `reserved_from` meets its contract. Assumes nothing.
use Rattle.sound.specs.Clauses.{reserved_from}
use Rattle.sound.proofs.Laws.{reserved-later}
use Rattle.sound.proofs.reserved_from.Goals as goal

pub returns-then-g-eq0 : goal.returns-then-g-eq0
unfolding reserved_from
returns-then-g-eq0 c = rw c.if-g-eq0.true

pub returns-else-g-eq0 : goal.returns-else-g-eq0
returns-else-g-eq0 c = reserved-later _ _ c.if-g-eq0.false
