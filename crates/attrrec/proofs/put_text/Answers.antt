-- `put_text` meets its contract. Assumes nothing.
use borrow.Author.Rules.{rules}
use native.Mathlib.Omega.{arith}
use Rattle.attrrec.proofs.TextLaws.{prefix-empty, prefix-user, prefix-system, text-length, text-put}
use Rattle.attrrec.proofs.put_text.Goals as goal

pub put_parts-requires : goal.put_parts-requires
put_parts-requires c = let l = text-length _ _ c.args.name.now (prefix-empty _ c.if-ns-eq0.true) in (omega arith, omega arith)

pub returns-then-ns-eq0 : goal.returns-then-ns-eq0
returns-then-ns-eq0 c = text-put _ _ _ (prefix-empty _ c.if-ns-eq0.true) _ _ _ _ c.put_parts.ensures

pub put_parts-requires-then-ns-eq1 : goal.put_parts-requires-then-ns-eq1
put_parts-requires-then-ns-eq1 c = let l = text-length _ _ c.args.name.now (prefix-user _ c.if-ns-eq0.false c.if-ns-eq1.true) in (omega arith, omega arith)

pub returns-then-ns-eq1 : goal.returns-then-ns-eq1
returns-then-ns-eq1 c = text-put _ _ _ (prefix-user _ c.if-ns-eq0.false c.if-ns-eq1.true) _ _ _ _ c.put_parts-then-ns-eq1.ensures

pub put_parts-requires-2 : goal.put_parts-requires-2
put_parts-requires-2 c = let l = text-length _ _ c.args.name.now (prefix-system _ c.if-ns-eq0.false c.if-ns-eq1.false) in (omega arith, omega arith)

pub returns : goal.returns
returns c = text-put _ _ _ (prefix-system _ c.if-ns-eq0.false c.if-ns-eq1.false) _ _ _ _ c.put_parts-2.ensures
