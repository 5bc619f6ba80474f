-- `hitchsnow_rmdir` meets its contract: the call, and the words of its answer. Assumes nothing.
use borrow.Author.Rules.{rules}
use Rattle.boundary.proofs.WordsLaws.{passed}
use Rattle.boundary_file.specs.Words.{done_word}
use Rattle.boundary_name.proofs.hitchsnow_rmdir.Goals as goal

pub returns : goal.returns
returns c = passed done_word c.rmdir-w.ensures c.done_number.ensures
