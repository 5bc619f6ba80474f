-- `link_name` meets its contract. Assumes nothing.
use borrow.Author.Rules.{rules}
use mathlib.Core.Path.{◌∙◌}
use Rattle.inode_run.proofs.FindLaws.{found-got}
use Rattle.inode_read.proofs.JudgeLaws.{found_no}
use Rattle.inode_write.proofs.CallLaws.{in_table}
use Rattle.dirfile.proofs.BlockLaws.{dir-named}
use Rattle.dirlink.proofs.LinkLaws.{link-named, link_lost}
use Rattle.dirlink.proofs.link_name.Goals as goal

pub link_into-requires : goal.link_into-requires
link_into-requires c =
    let p = c.requires in
    let at = (dir-named _ _ p.0 _ _ (found-got _ _ c.in-Ok.ensures)).place in
    (p.0, at.inside, in_table _ _ _ _ at, p.1)

pub returns : goal.returns
returns c = c.link_into.ensures ∙ link-named _ _ _ _ _ _ (found-got _ _ c.in-Ok.ensures)

pub returns-in_default : goal.returns-in_default
returns-in_default c = link_lost _ _ _ _ _ _ (found_no _ _ c.in_default.ensures)
