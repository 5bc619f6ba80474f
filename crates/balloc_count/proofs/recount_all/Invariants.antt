-- `recount_all` meets its contract: the groups passed have their counts, and the sums are theirs. Assumes nothing.
use Rattle.balloc_count.proofs.RecountLaws.{Passed}
use Rattle.balloc_count.proofs.recount_all.Given as goal

abbrev pub invariant-loop-g : goal.invariant-loop-g
invariant-loop-g l = Passed l.geo l.initial.img l.img l.nbfree l.nffree l.g
