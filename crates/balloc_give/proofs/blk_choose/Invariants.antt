-- `blk_choose` meets its contract: the groups passed have nothing to give. Assumes nothing.
use Rattle.std.proofs.Common.{◌≡◌, ◌-◌}
use Rattle.balloc_give.specs.Give.{choose_from, chosen}
use Rattle.balloc_give.proofs.blk_choose.Given as goal

abbrev pub invariant-loop-g : goal.invariant-loop-g
invariant-loop-g l = choose_from l.geo l.img l.g (l.geo.ncg - l.g) ≡ chosen l.geo l.img
