-- `inode_resolve_block` meets its contract. Assumes nothing.
use mathlib.Core.Path.{sym, ap, ◌∙◌}
use Rattle.refusal.proofs.ExitLaws.{passed}
use Rattle.inode_read.specs.Calls.{resolved_answer}
use Rattle.inode_read.proofs.JudgeLaws.{known-got, known-refused, place-stands}
use Rattle.inode_read.proofs.CallLaws.{resolve-found}
use Rattle.inode_block.proofs.inode_resolve_block.Goals as goal

pub resolve_in-requires : goal.resolve_in-requires
resolve_in-requires c =
    let p = place-stands _ _ _ (known-got _ _ _ c.in_ok-geo.ensures) in
    (p.frame, p.named.place.inside)

pub returns : goal.returns
returns c = c.resolve_in.ensures ∙ sym (ap resolved_answer (resolve-found _ _ _ (known-got _ _ _ c.in_ok-geo.ensures) _))

pub returns-in_err-geo : goal.returns-in_err-geo
returns-in_err-geo c = passed _ _ c.from_residual.ensures ∙ sym (ap resolved_answer (resolve-found _ _ _ (known-refused _ _ c.in_err-geo.ensures) _))
