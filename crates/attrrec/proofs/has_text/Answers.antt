-- `has_text` meets its contract. Assumes nothing.
use borrow.Author.Rules.{rules}
use native.Mathlib.Omega.{arith}
use Rattle.attrrec.proofs.TextLaws.{prefix-empty, prefix-user, prefix-system, asked-known, asked-other}
use Rattle.attrrec.proofs.has_text.Goals as goal

pub returns-then-ns-eq0 : goal.returns-then-ns-eq0
returns-then-ns-eq0 c = asked-known _ _ _ _ _ (omega arith) (prefix-empty _ c.if-ns-eq0.true) c.is_text.ensures

pub returns-then-ns-eq1 : goal.returns-then-ns-eq1
returns-then-ns-eq1 c = asked-known _ _ _ _ _ (omega arith) (prefix-user _ c.if-ns-eq0.false c.if-ns-eq1.true) c.is_text-then-ns-eq1.ensures

pub returns-then-ns-eq2 : goal.returns-then-ns-eq2
returns-then-ns-eq2 c = asked-known _ _ _ _ _ (omega arith) (prefix-system _ c.if-ns-eq0.false c.if-ns-eq1.false) c.is_text-then-ns-eq2.ensures

pub returns : goal.returns
returns c = asked-other _ _ _ (omega arith)
