-- `hitchsnow_inode_read` meets its contract: the call, and the words of its answer. Assumes nothing.
use borrow.Author.Rules.{rules}
use Rattle.boundary.proofs.WordsLaws.{passed}
use Rattle.boundary_inode.specs.Words.{read_words}
use Rattle.boundary_inode.proofs.hitchsnow_inode_read.Goals as goal

pub returns : goal.returns
returns c = passed read_words c.inode_read-a.ensures c.put_read.ensures
