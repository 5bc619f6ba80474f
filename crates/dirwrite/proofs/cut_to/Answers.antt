-- `cut_to` meets its contract. Assumes nothing.
use borrow.Author.Rules.{rules}
use mathlib.Core.Path.{◌∙◌}
use Rattle.inode_run.proofs.FindLaws.{found-got, find-named}
use Rattle.inode_read.proofs.JudgeLaws.{found_no}
use Rattle.dirwrite.proofs.WriteLaws.{cut-found, cut-lost}
use Rattle.dirwrite.proofs.cut_to.Goals as goal

pub resize-requires : goal.resize-requires
resize-requires c = let fr = c.requires in (fr, (find-named _ _ fr _ _ (found-got _ _ c.in-Ok.ensures)).place.inside)

pub returns : goal.returns
returns c = c.resize.ensures ∙ cut-found _ _ _ _ (found-got _ _ c.in-Ok.ensures)

pub returns-in_default : goal.returns-in_default
returns-in_default c = cut-lost _ _ _ _ (found_no _ _ c.in_default.ensures)
