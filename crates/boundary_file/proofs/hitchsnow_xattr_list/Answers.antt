-- `hitchsnow_xattr_list` meets its contract: the call, and the words of its answer. Assumes nothing.
use borrow.Author.Rules.{rules}
use Rattle.boundary.proofs.WordsLaws.{passed}
use Rattle.boundary_file.specs.Words.{length_words}
use Rattle.boundary_file.proofs.hitchsnow_xattr_list.Goals as goal

pub returns : goal.returns
returns c = passed length_words c.xattr_list-l.ensures c.put_length.ensures
