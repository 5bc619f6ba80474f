-- `dir_next` meets its contract. Assumes nothing.
use borrow.Author.Rules.{rules}
use mathlib.Core.Path.{sym, ap, ◌∙◌}
use Rattle.refusal.proofs.ExitLaws.{passed}
use Rattle.inode_read.proofs.JudgeLaws.{known-got, known-refused, place-stands}
use Rattle.dirnext.specs.Next.{next_answer}
use Rattle.dirnext.proofs.NextLaws.{next_in_lem}
use Rattle.dirnext.proofs.dir_next.Goals as goal

pub next_found-requires : goal.next_found-requires
next_found-requires c =
    let p = place-stands _ _ _ (known-got _ _ _ c.in_ok-geo.ensures) in
    (p.frame, p.named.place.inside)

pub returns : goal.returns
returns c = c.next_found.ensures ∙ sym (ap next_answer (next_in_lem _ _ _ (known-got _ _ _ c.in_ok-geo.ensures) _ _))

pub returns-in_err-geo : goal.returns-in_err-geo
returns-in_err-geo c = rw (passed _ _ c.from_residual.ensures) (sym (ap next_answer (next_in_lem _ _ _ (known-refused _ _ c.in_err-geo.ensures) _ _)))
