-- `hitchsnow_blk_alloc_cut` meets its contract: the call, and the words of its answer. Assumes nothing.
use borrow.Author.Rules.{rules}
use Rattle.boundary.specs.Words.{given_words}
use Rattle.boundary.proofs.WordsLaws.{passed}
use Rattle.boundary.proofs.hitchsnow_blk_alloc_cut.Goals as goal

pub returns : goal.returns
returns c = passed given_words c.blk_alloc_cut-g.ensures c.put_given.ensures
