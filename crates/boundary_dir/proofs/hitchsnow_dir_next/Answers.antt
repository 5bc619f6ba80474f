-- `hitchsnow_dir_next` meets its contract: the call, and the words of its answer. Assumes nothing.
use borrow.Author.Rules.{rules}
use Rattle.boundary.proofs.WordsLaws.{passed}
use Rattle.boundary_dir.specs.Words.{next_words}
use Rattle.boundary_dir.proofs.hitchsnow_dir_next.Goals as goal

pub returns : goal.returns
returns c = passed next_words c.dir_next-n.ensures c.put_next.ensures
