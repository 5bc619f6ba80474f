-- `hitchsnow_inode_truncate` meets its contract: the call, and the number of its answer. Assumes nothing.
use borrow.Author.Rules.{rules}
use Rattle.boundary.proofs.WordsLaws.{passed}
use Rattle.boundary_file.specs.Words.{done_word}
use Rattle.boundary_file.proofs.hitchsnow_inode_truncate.Goals as goal

pub returns : goal.returns
returns c = passed done_word c.inode_truncate-t.ensures c.done_number.ensures
