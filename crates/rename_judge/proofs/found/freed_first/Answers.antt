-- `freed_first` meets its contract. Assumes nothing.
use borrow.Author.Rules.{rules}
use Rattle.rename_judge.proofs.RenameLaws.{freed_is}
use Rattle.rename_judge.proofs.found.freed_first.Goals as goal

pub returns : goal.returns
returns c = freed_is _ _ _ _ _ _ _ _ c.links_of-last.ensures
