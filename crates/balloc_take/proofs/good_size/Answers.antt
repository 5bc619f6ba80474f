-- `good_size` meets its contract: the three tests, joined. Assumes nothing.
use Rattle.std.proofs.Common.{sym, rules}
use Rattle.balloc_take.proofs.TestLaws.{size-is}
use Rattle.balloc_take.proofs.good_size.Goals as goal

pub returns : goal.returns
returns c = sym (size-is _ _)
