-- `hitchsnow_xattr_read` meets its contract: the call, and the words of its answer. Assumes nothing.
use borrow.Author.Rules.{rules}
use Rattle.boundary.proofs.WordsLaws.{passed}
use Rattle.boundary_file.specs.Words.{value_words}
use Rattle.boundary_file.proofs.hitchsnow_xattr_read.Goals as goal

pub returns : goal.returns
returns c = passed value_words c.xattr_read-v.ensures c.put_value.ensures
