-- `rec_at` meets its contract. Assumes nothing.
use borrow.Author.Rules.{rules}
use mathlib.Core.Path.{refl, sym, ◌∙◌}
use Rattle.dirblock.proofs.RecordLaws.{judged-tail, rec_judged}
use Rattle.dirblock.proofs.rec_at.Goals as goal

pub returns-then-left-lt8 : goal.returns-then-left-lt8
returns-then-left-lt8 c = sym (rec_judged _ _ _ _ _ c.saturating_sub-left.ensures refl ∙ judged-tail _ _ c.if-left-lt8.true)

pub returns : goal.returns
returns c = c.judge.ensures ∙ sym (rec_judged _ _ _ _ _ c.saturating_sub-left.ensures c.entry_at.ensures)
