-- `xattr_read` meets its contract. Assumes nothing.
use borrow.Author.Rules.{rules}
use native.Mathlib.Omega.{arith}
use mathlib.Core.Path.{◌∙◌}
use Rattle.refusal.proofs.ExitLaws.{passed}
use Rattle.xattr.proofs.CallLaws.{found, read_short, read_whole, read-hit}
use Rattle.xattr.proofs.xattr_read.Goals as goal

pub returns-then-buf-n : goal.returns-then-buf-n
returns-then-buf-n c = read_short _ _ _ _ _ c.if-buf-n.true ∙ read-hit _ _ _ _ c.in_ok-a.ensures _

pub gather-requires : goal.gather-requires
gather-requires c = let f = found _ _ _ _ _ _ c.in_ok-a.ensures in (f.inside, search rules, search rules)

pub overflow_add-from : goal.overflow_add-from
overflow_add-from c = let f = found _ _ _ _ _ _ c.in_ok-a.ensures in omega (arith, f.pad, f.ends, f.inside.small, c.gap_of.ensures.0)

pub value_len-requires : goal.value_len-requires
value_len-requires c = let f = found _ _ _ _ _ _ c.in_ok-a.ensures in f.pad

pub overflow_add-result : goal.overflow_add-result
overflow_add-result c = let f = found _ _ _ _ _ _ c.in_ok-a.ensures in omega (arith, f.pad, f.ends, f.inside.small, c.gap_of.ensures.0, c.value_len.ensures.1)

pub returns : goal.returns
returns c = let f = found _ _ _ _ _ _ c.in_ok-a.ensures in read_whole _ _ _ _ _ c.if-buf-n.false f.inside _ c.gather.ensures _ _ (omega (arith, c.gap_of.ensures.0)) (omega (arith, c.value_len.ensures.0)) ∙ read-hit _ _ _ _ c.in_ok-a.ensures _

pub returns-in_err-a : goal.returns-in_err-a
returns-in_err-a c = let p = passed _ _ c.from_residual.ensures in rw p (read-hit _ _ _ _ c.in_err-a.ensures _)
