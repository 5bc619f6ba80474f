-- `with_link` meets its contract. Assumes nothing.
use Rattle.std.proofs.Common.{refl}
use Rattle.ialloc_give.specs.Give.{with_link}
use Rattle.ialloc_give.proofs.with_link.Goals as goal

pub returns : goal.returns
unfolding with_link
returns c = refl
