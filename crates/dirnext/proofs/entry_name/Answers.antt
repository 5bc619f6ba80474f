-- `entry_name` meets its contract. Assumes nothing.
use borrow.Author.Rules.{rules}
use mathlib.Core.Path.{sym}
use native.Mathlib.Omega.{arith}
use Rattle.dirnext.proofs.NextLaws.{name-past, name-there}
use Rattle.dirnext.proofs.entry_name.Goals as goal

pub returns-then-buf-from : goal.returns-then-buf-from
returns-then-buf-from c = sym (name-past _ _ (omega (arith, c.if-buf-from.true)))

pub returns-then-buf-from-2 : goal.returns-then-buf-from-2
returns-then-buf-from-2 c = sym (name-past _ _ (omega (arith, c.if-buf-from-2.true, c.if-buf-from.false)))

pub returns : goal.returns
returns c = name-there _ _ (omega (arith, c.if-buf-from-2.false, c.if-buf-from.false))
