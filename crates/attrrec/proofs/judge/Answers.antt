-- `judge` meets its contract. Assumes nothing.
use borrow.Author.Rules.{rules}
use mathlib.Core.Path.{sym}
use native.Mathlib.Omega.{arith}
use Rattle.attrrec.proofs.RecordLaws.{judged-tail, judged-nameless, judged-long, judged-cut, judged-short, judged-past, judged-pad, judged-is}
use Rattle.attrrec.proofs.judge.Goals as goal

pub returns-then-left-lt7 : goal.returns-then-left-lt7
returns-then-left-lt7 c = sym (judged-tail _ _ _ c.if-left-lt7.true)

pub returns-then-e-eq0 : goal.returns-then-e-eq0
returns-then-e-eq0 c = sym (judged-nameless _ _ _ c.if-left-lt7.false c.if-e-eq0.true)

pub returns-then-e-gt64 : goal.returns-then-e-gt64
returns-then-e-gt64 c = sym (judged-long _ _ _ c.if-left-lt7.false c.if-e-eq0.false (omega (arith, c.if-e-gt64.true)))

pub returns-then-left-e : goal.returns-then-left-e
returns-then-left-e c = sym (judged-cut _ _ _ c.if-left-lt7.false c.if-e-eq0.false c.if-e-gt64.false c.if-left-e.true)

pub returns-then-len-skip : goal.returns-then-len-skip
returns-then-len-skip c = sym (judged-short _ _ _ c.if-left-lt7.false c.if-e-eq0.false c.if-e-gt64.false c.if-left-e.false (omega arith))

pub returns-then-left-len : goal.returns-then-left-len
returns-then-left-len c = sym (judged-past _ _ _ c.if-left-lt7.false c.if-e-eq0.false c.if-e-gt64.false c.if-left-e.false (omega arith) c.if-left-len.true)

pub returns-then-len-skip-2 : goal.returns-then-len-skip-2
returns-then-len-skip-2 c = sym (judged-pad _ _ _ c.if-left-lt7.false c.if-e-eq0.false c.if-e-gt64.false c.if-left-e.false (omega arith) c.if-left-len.false (omega arith))

pub returns : goal.returns
returns c = sym (judged-is _ _ _ c.if-left-lt7.false c.if-e-eq0.false c.if-e-gt64.false c.if-left-e.false (omega arith) c.if-left-len.false (omega arith))
