-- `hitchsnow_inode_modify` meets its contract: the call on the wanted attributes, and the words of its answer. Assumes nothing.
use borrow.Author.Rules.{rules}
use mathlib.Core.Path.{◌∙◌}
use Rattle.boundary.proofs.WordsLaws.{passed}
use Rattle.boundary_file.specs.Words.{changed_words}
use Rattle.boundary_file.proofs.ModifyLaws.{same-wanted, attr-changed}
use Rattle.boundary_file.proofs.hitchsnow_inode_modify.Goals as goal

pub returns : goal.returns
returns c =
    passed changed_words
    (c.inode_modify-m.ensures ∙ same-wanted (record { writable = c.args.writable }) c.args.inr c.args.img.now c.wanted_attr-a.ensures)
    (c.put_attr.ensures ∙ attr-changed _)
