-- `value_len` meets its contract. Assumes nothing.
use borrow.Author.Rules.{rules}
use Rattle.attrrec.specs.Record.{value_len}
use Rattle.xattr.proofs.value_len.Goals as goal

pub returns : goal.returns
unfolding value_len
returns c = (rw (← c.gap_of-skip.ensures.0), search rules)
