-- `first_gone` meets its contract. Assumes nothing.
use native.Mathlib.Omega.{arith}
use Rattle.inode_truncate.proofs.RecordLaws.{gone-direct, gone-second, gone-third}
use Rattle.inode_truncate.proofs.first_gone.Goals as goal

pub returns-then-keep-lt12 : goal.returns-then-keep-lt12
returns-then-keep-lt12 c = (gone-direct _ _ c.if-keep-lt12.true, omega arith)

pub returns-then-keep-span_of : goal.returns-then-keep-span_of
returns-then-keep-span_of c = (gone-second _ _ _ c.span_of.ensures.0 c.if-keep-lt12.false c.if-keep-span_of.true, omega arith)

pub returns : goal.returns
returns c = (gone-third _ _ _ c.span_of.ensures.0 c.if-keep-lt12.false c.if-keep-span_of.false, omega arith)
