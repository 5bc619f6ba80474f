-- `mark_used` meets its contract: one byte of the map is stored. Assumes nothing.
use Rattle.std.proofs.Common.{rules}
use Rattle.ialloc_give.proofs.MarkLaws.{apply-used}
use Rattle.ialloc_give.proofs.mark_used.Goals as goal

pub returns : goal.returns
returns c =
    let u = c.used_at-at in
    rw (apply-used _ _ _ _ _, ← u.ensures.0) c.setfrag.ensures
