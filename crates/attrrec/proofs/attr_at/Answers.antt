-- `attr_at` meets its contract. Assumes nothing.
use borrow.Author.Rules.{rules}
use mathlib.Core.Path.{refl, sym, ◌∙◌}
use Rattle.attrrec.proofs.RecordLaws.{attr-judged, judged-tail}
use Rattle.attrrec.proofs.attr_at.Goals as goal

pub returns-then-left-lt7 : goal.returns-then-left-lt7
returns-then-left-lt7 c = sym (attr-judged _ _ _ _ _ c.left_of-left.ensures refl ∙ judged-tail _ _ _ c.if-left-lt7.true)

pub returns : goal.returns
returns c = c.judge.ensures ∙ sym (attr-judged _ _ _ _ _ c.left_of-left.ensures c.entry_at.ensures)
