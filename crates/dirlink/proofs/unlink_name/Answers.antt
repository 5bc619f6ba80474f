-- `unlink_name` meets its contract. Assumes nothing.
use borrow.Author.Rules.{rules}
use mathlib.Core.Path.{◌∙◌}
use Rattle.inode_run.proofs.FindLaws.{found-got}
use Rattle.inode_read.proofs.JudgeLaws.{found_no}
use Rattle.inode_write.proofs.CallLaws.{in_table}
use Rattle.dirfile.proofs.BlockLaws.{dir-named}
use Rattle.dirlink.proofs.LinkLaws.{unlink-named, unlink-lost}
use Rattle.dirlink.proofs.unlink_name.Goals as goal

pub unlink_from-requires : goal.unlink_from-requires
unlink_from-requires c =
    let fr = c.requires in
    let at = (dir-named _ _ fr _ _ (found-got _ _ c.in-Ok.ensures)).place in
    (fr, at.inside, in_table _ _ _ _ at)

pub returns : goal.returns
returns c = c.unlink_from.ensures ∙ unlink-named _ _ _ _ (found-got _ _ c.in-Ok.ensures)

pub returns-in_default : goal.returns-in_default
returns-in_default c = unlink-lost _ _ _ _ (found_no _ _ c.in_default.ensures)
