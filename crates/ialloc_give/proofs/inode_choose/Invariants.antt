-- `inode_choose` meets its contract: the groups passed have nothing to give. Assumes nothing.
use Rattle.std.proofs.Common.{◌≡◌, ◌-◌}
use Rattle.bits.specs.Upto.{first}
use Rattle.ialloc_give.specs.Choose.{has_one}
use Rattle.ialloc_give.proofs.inode_choose.Given as goal

abbrev pub invariant-loop-g : goal.invariant-loop-g
invariant-loop-g l = first (has_one l.geo l.img) l.g (l.geo.ncg - l.g) ≡ first (has_one l.geo l.img) 0 l.geo.ncg
