-- `hitchsnow_inode_attr` meets its contract: the call, and the words of its answer. Assumes nothing.
use borrow.Author.Rules.{rules}
use mathlib.Core.Path.{ap, ◌∙◌}
use Rattle.boundary_inode.specs.Words.{attr_words}
use Rattle.boundary_inode.proofs.hitchsnow_inode_attr.Goals as goal

pub returns : goal.returns
returns c = c.put_attr.ensures ∙ ap attr_words c.inode_attr-a.ensures
