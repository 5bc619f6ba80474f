-- `next_found` meets its contract. Assumes nothing.
use borrow.Author.Rules.{rules}
use borrow.Author.Tests.{eq-eqb, ne_eqb}
use mathlib.Core.Path.{sym, ap, ◌∙◌}
use native.Mathlib.Omega.{arith}
use Rattle.dirnext.specs.Next.{next_answer}
use Rattle.dirnext.proofs.NextLaws.{next-other, next-odd, next_small, next-work}
use Rattle.dirnext.proofs.next_found.Goals as goal

pub returns-then-not-is_dir : goal.returns-then-not-is_dir
returns-then-not-is_dir c = sym (ap next_answer (next-other _ _ _ _ _ (sym c.is_dir.ensures ∙ c.if-not-is_dir.true)))

pub returns-then-not-shape : goal.returns-then-not-shape
returns-then-not-shape c = sym (ap next_answer (next-odd _ _ _ _ _ (sym c.is_dir.ensures ∙ c.if-not-is_dir.false) (ne_eqb _ _ c.if-not-shape.true)))

pub returns-then-buf-lt512 : goal.returns-then-buf-lt512
returns-then-buf-lt512 c = sym (ap next_answer (next_small _ _ _ _ _ (sym c.is_dir.ensures ∙ c.if-not-is_dir.false) (eq-eqb _ _ c.if-not-shape.false) c.if-buf-lt512.true))

pub returns : goal.returns
returns c = c.next_from.ensures ∙ sym (ap next_answer (next-work _ _ _ _ _ (sym c.is_dir.ensures ∙ c.if-not-is_dir.false) (eq-eqb _ _ c.if-not-shape.false) (omega (arith, c.if-buf-lt512.false))))
