-- `is_frag` meets its contract. Assumes nothing.
use borrow.Author.Rules.{rules}
use Rattle.bits.specs.Bits.{is_frag}
use Rattle.sound.proofs.is_frag.Goals as goal

pub returns : goal.returns
unfolding is_frag
returns c = search rules
