-- `is_block_size` meets its contract. Assumes nothing.
use borrow.Author.Rules.{rules}
use Rattle.sound.specs.Clauses.{is_block_size}
use Rattle.sound.proofs.is_block_size.Goals as goal

pub returns : goal.returns
unfolding is_block_size
returns c = search rules
