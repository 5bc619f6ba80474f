-- `hitchsnow_blk_free` meets its contract: the call, and the words of its answer. Assumes nothing.
use borrow.Author.Rules.{rules}
use Rattle.boundary.specs.Words.{freed_words}
use Rattle.boundary.proofs.WordsLaws.{passed}
use Rattle.boundary.proofs.hitchsnow_blk_free.Goals as goal

pub returns : goal.returns
returns c = passed freed_words c.blk_free-f.ensures c.put_freed.ensures
