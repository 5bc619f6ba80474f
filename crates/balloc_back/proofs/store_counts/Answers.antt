-- `store_counts` meets its contract: one arm for each list. Assumes nothing.
use Rattle.std.proofs.Common.{refl, arith, rules}
use Rattle.balloc_back.proofs.store_counts.Goals as goal

pub returns-then-whole : goal.returns-then-whole
returns-then-whole c = rw c.if-whole.true (c.put_whole.ensures, refl, omega arith)

pub returns-else-whole : goal.returns-else-whole
returns-else-whole c = rw c.if-whole.false (c.put_part.ensures, refl, omega arith)
