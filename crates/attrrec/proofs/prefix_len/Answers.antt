-- `prefix_len` meets its contract. Assumes nothing.
use borrow.Author.Rules.{rules}
use Rattle.attrrec.proofs.TextLaws.{prefix-empty, prefix-user, prefix-system}
use Rattle.attrrec.proofs.prefix_len.Goals as goal

pub returns-then-ns-eq0 : goal.returns-then-ns-eq0
returns-then-ns-eq0 c = rw (prefix-empty _ c.if-ns-eq0.true) (search rules)

pub returns-then-ns-eq1 : goal.returns-then-ns-eq1
returns-then-ns-eq1 c = rw (prefix-user _ c.if-ns-eq0.false c.if-ns-eq1.true) (search rules)

pub returns : goal.returns
returns c = rw (prefix-system _ c.if-ns-eq0.false c.if-ns-eq1.false) (search rules)
