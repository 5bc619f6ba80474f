-- `put_counts_if` meets its contract: two writes under one test are one store, `together`. Assumes nothing.
use Rattle.std.proofs.Common.{rules}
use Rattle.balloc_take.proofs.TakeLaws.{keeps_count, kept_if, together}
use Rattle.store.specs.Where.{none, more}
use Rattle.balloc_back.proofs.put_counts_if.Goals as goal

pub put_count_if-requires-2 : goal.put_count_if-requires-2
put_count_if-requires-2 c =
    (kept_if (more (keeps_count _ _ _ _ c.requires.1) none) _ _ c.requires.0 c.put_count_if.ensures, c.requires.1)

pub returns : goal.returns
returns c = together _ _ _ _ c.put_count_if.ensures c.put_count_if-2.ensures
