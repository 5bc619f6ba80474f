-- `hitchsnow_rename` meets its contract: the call, and the words of its answer. Assumes nothing.
use borrow.Author.Rules.{rules}
use Rattle.boundary.proofs.WordsLaws.{passed}
use Rattle.boundary_name.specs.Words.{gone_words}
use Rattle.boundary_name.proofs.hitchsnow_rename.Goals as goal

pub returns : goal.returns
returns c = passed gone_words c.rename-g.ensures c.put_gone.ensures
