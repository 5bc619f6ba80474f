-- `block_but` meets its contract. Assumes nothing.
use borrow.Author.Rules.{rules}
use Rattle.rename_judge.proofs.RenameLaws.{but-it, but-other}
use Rattle.rename_judge.proofs.room.block_but.Goals as goal

pub returns-then-k-j : goal.returns-then-k-j
returns-then-k-j c = but-it _ _ _ _ _ _ _ c.if-k-j.true

pub returns : goal.returns
returns c = but-other _ _ _ _ _ _ _ c.if-k-j.false _ c.room_block.ensures
