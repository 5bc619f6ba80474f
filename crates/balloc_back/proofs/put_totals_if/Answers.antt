-- `put_totals_if` meets its contract: two writes under one test are one store, `together`. Assumes nothing.
use Rattle.std.proofs.Common.{rules}
use Rattle.balloc_take.proofs.TakeLaws.{keeps_total, kept_if, together}
use Rattle.store.specs.Where.{none, more}
use Rattle.balloc_back.proofs.put_totals_if.Goals as goal

pub put_total_if-requires-2 : goal.put_total_if-requires-2
put_total_if-requires-2 c = kept_if (more (keeps_total _ _ _) none) _ _ c.requires c.put_total_if.ensures

pub returns : goal.returns
returns c = together _ _ _ _ c.put_total_if.ensures c.put_total_if-2.ensures
