-- `total_after` meets its contract: the sum is taken modulo 2^64, as `up` and `down` are. Assumes nothing.
use Rattle.std.proofs.Common.{◌∙◌, rules}
use Rattle.ialloc_give.proofs.MarkLaws.{counted-up, counted-down}
use Rattle.ialloc_give.proofs.total_after.Goals as goal

pub returns-then-freed : goal.returns-then-freed
returns-then-freed c = c.wrapping_add_u64.ensures.value ∙ counted-up 8 _ c.if-freed.true

pub returns-else-freed : goal.returns-else-freed
returns-else-freed c = c.wrapping_add_u64-else-freed.ensures.value ∙ counted-down 8 _ c.if-freed.false
