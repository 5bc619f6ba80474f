-- `judge` meets its contract. Assumes nothing.
use borrow.Author.Rules.{rules}
use mathlib.Core.Path.{sym, ◌∙◌}
use native.Mathlib.Omega.{arith}
use Rattle.dirblock.proofs.RecordLaws.{judged-none, judged-short, judged-past, judged-free, judged-kind}
use mathlib.Core.Path.{sym, ◌∙◌}
use native.Mathlib.Omega.{arith}
use Rattle.dirblock.proofs.RecordLaws.{judged-none, judged-short, judged-past, judged-free, judged-kind}
use Rattle.dirblock.proofs.judge.Goals as goal

pub returns-then-e-eq0 : goal.returns-then-e-eq0
returns-then-e-eq0 c = sym (judged-none _ _ c.requires c.if-e-eq0.true)

pub returns-then-e-smallest_read : goal.returns-then-e-smallest_read
returns-then-e-smallest_read c = sym (judged-short _ _ c.requires c.if-e-eq0.false (omega arith))

pub returns-then-left-e : goal.returns-then-left-e
returns-then-left-e c = sym (judged-past _ _ c.requires c.if-e-eq0.false (omega arith) c.if-left-e.true)

pub returns-then-e-eq0-2 : goal.returns-then-e-eq0-2
returns-then-e-eq0-2 c = sym (judged-free _ _ c.requires c.if-e-eq0.false (omega arith) c.if-left-e.false c.if-e-eq0-2.true)

pub returns-then-kind_known : goal.returns-then-kind_known
returns-then-kind_known c = sym (judged-kind _ _ c.requires c.if-e-eq0.false (omega arith) c.if-left-e.false c.if-e-eq0-2.false ∙ rw (← c.kind_known.ensures, c.if-kind_known.true))

pub returns : goal.returns
returns c = sym (judged-kind _ _ c.requires c.if-e-eq0.false (omega arith) c.if-left-e.false c.if-e-eq0-2.false ∙ rw (← c.kind_known.ensures, c.if-kind_known.false))
