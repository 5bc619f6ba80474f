-- `truncate_found` meets its contract. Assumes nothing.
use mathlib.Core.Path.{sym, ◌∙◌}
use Rattle.refusal.proofs.ExitLaws.{passed}
use Rattle.truncate.proofs.CallLaws.{judged-keep, found_no, found-yes}
use Rattle.truncate.proofs.truncate_found.Goals as goal

pub truncate_work-requires : goal.truncate_work-requires
truncate_work-requires c =
    let k = c.requires in
    (k.0, k.1, judged-keep _ _ _ _ _ (sym c.in_ok-judge.ensures))

pub returns : goal.returns
returns c = c.truncate_work.ensures ∙ found-yes _ _ _ _ _ (sym c.in_ok-judge.ensures)

pub returns-in_err-judge : goal.returns-in_err-judge
returns-in_err-judge c = rw (passed _ _ c.from_residual.ensures) (found_no _ _ _ _ _ (sym c.in_err-judge.ensures))
