-- `hitchsnow_inode_write` meets its contract: the call, and the words of its answer. Assumes nothing.
use borrow.Author.Rules.{rules}
use Rattle.boundary.proofs.WordsLaws.{passed}
use Rattle.boundary_file.specs.Words.{wrote_words}
use Rattle.boundary_file.proofs.hitchsnow_inode_write.Goals as goal

pub returns : goal.returns
returns c = passed wrote_words c.inode_write-w.ensures c.put_wrote.ensures
