-- `hitchsnow_recount` meets its contract: the call, and the words of its answer. Assumes nothing.
use borrow.Author.Rules.{rules}
use Rattle.boundary.specs.Words.{recounted_words}
use Rattle.boundary.proofs.WordsLaws.{passed}
use Rattle.boundary.proofs.hitchsnow_recount.Goals as goal

pub returns : goal.returns
returns c = passed recounted_words c.recount-t.ensures c.put_recounted.ensures
