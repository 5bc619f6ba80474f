-- `gap_of` meets its contract. Assumes nothing.
use borrow.Author.Rules.{rules}
use Rattle.attrrec.proofs.RecordLaws.{gap-over}
use Rattle.attrrec.proofs.gap_of.Goals as goal

pub returns : goal.returns
returns c = (gap-over _ _, search rules, search rules)
