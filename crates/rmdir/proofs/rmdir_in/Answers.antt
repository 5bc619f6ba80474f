-- `rmdir_in` meets its contract. Assumes nothing.
use borrow.Author.Rules.{rules}
use mathlib.Core.Path.{refl, ◌∙◌}
use Rattle.rmdir.proofs.RmdirLaws.{judged-dir, judged-no}
use Rattle.rmdir.proofs.rmdir_in.Goals as goal

pub returns-in-Ok : goal.returns-in-Ok
returns-in-Ok c = c.remove_dir.ensures ∙ judged-dir _ _ _ _ c.in-Ok.ensures refl

pub returns-in-Err : goal.returns-in-Err
returns-in-Err c = judged-no _ _ _ _ c.in-Err.ensures refl
