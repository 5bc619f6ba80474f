-- `bump_found` meets its contract. Assumes nothing.
use borrow.Author.Rules.{rules}
use mathlib.Core.Path.{refl}
use Rattle.inode_run.proofs.FindLaws.{found-got, find-named, number-is}
use Rattle.inode_read.proofs.JudgeLaws.{found_no}
use Rattle.dirwrite.proofs.WriteLaws.{bump-again, bump-lost}
use Rattle.dirwrite.proofs.bump_found.Goals as goal

pub inode_bump-requires : goal.inode_bump-requires
inode_bump-requires c =
    let fr = c.requires in
    let l = number-is _ _ (find-named _ _ fr _ _ (found-got _ _ c.in-Ok.ensures)).number in
    (fr, l.1)

pub returns : goal.returns
returns c = bump-again _ _ _ (found-got _ _ c.in-Ok.ensures) c.inode_bump.ensures refl

pub returns-in_default : goal.returns-in_default
returns-in_default c = bump-lost _ _ _ (found_no _ _ c.in_default.ensures)
