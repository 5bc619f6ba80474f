-- `free_found` meets its contract. Assumes nothing.
use borrow.Author.Rules.{rules}
use mathlib.Core.Path.{refl}
use Rattle.inode_run.proofs.FindLaws.{found-got, find-named, number-is}
use Rattle.inode_read.proofs.JudgeLaws.{found_no}
use Rattle.dirwrite.proofs.WriteLaws.{free-again, free-lost}
use Rattle.dirwrite.proofs.free_found.Goals as goal

pub inode_free-requires : goal.inode_free-requires
inode_free-requires c =
    let fr = c.requires in
    let l = number-is _ _ (find-named _ _ fr _ _ (found-got _ _ c.in-Ok.ensures)).number in
    (fr, l.0, l.1)

pub returns : goal.returns
returns c = free-again _ _ _ (found-got _ _ c.in-Ok.ensures) c.inode_free.ensures refl

pub returns-in_default : goal.returns-in_default
returns-in_default c = free-lost _ _ _ (found_no _ _ c.in_default.ensures)
