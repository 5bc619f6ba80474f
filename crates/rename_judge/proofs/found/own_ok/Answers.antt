-- `own_ok` meets its contract. Assumes nothing.
use borrow.Author.Rules.{rules}
use Rattle.rename_judge.specs.Rename.{own_ok}
use Rattle.rename_judge.proofs.found.own_ok.Goals as goal

pub returns : goal.returns
unfolding own_ok
returns c = cc
