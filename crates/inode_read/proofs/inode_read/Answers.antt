-- `inode_read` meets its contract. Assumes nothing.
use mathlib.Core.Path.{sym, ap, ◌∙◌}
use Rattle.refusal.proofs.ExitLaws.{passed}
use Rattle.inode_read.specs.Calls.{read_answer}
use Rattle.inode_read.proofs.JudgeLaws.{known-got, known-refused, place-stands}
use Rattle.inode_read.proofs.CallLaws.{read_found_lem}
use Rattle.inode_read.proofs.inode_read.Goals as goal

pub read_found-requires : goal.read_found-requires
read_found-requires c =
    let p = place-stands _ _ _ (known-got _ _ _ c.in_ok-geo.ensures) in
    (p.frame, p.named.place.inside)

pub returns : goal.returns
returns c =
    c.read_found.ensures
    ∙ sym (ap read_answer (read_found_lem _ _ _ (known-got _ _ _ c.in_ok-geo.ensures) _ _))

pub returns-in_err-geo : goal.returns-in_err-geo
returns-in_err-geo c = let p = passed _ _ c.from_residual.ensures in rw p (sym (ap read_answer (read_found_lem _ _ _ (known-refused _ _ c.in_err-geo.ensures) _ _)))
