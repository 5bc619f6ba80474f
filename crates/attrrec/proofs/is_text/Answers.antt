-- `is_text` meets its contract. Assumes nothing.
use borrow.Author.Rules.{rules}
use Rattle.attrrec.proofs.TextLaws.{text_told, text_long}
use Rattle.attrrec.proofs.is_text.Goals as goal

pub returns-then-asked-n : goal.returns-then-asked-n
returns-then-asked-n c = text_told _ _ _ _ _ c.if-asked-n.true c.same_bytes.ensures.yes c.same_bytes.ensures.no c.same_bytes-then-asked-n.ensures.yes c.same_bytes-then-asked-n.ensures.no

pub returns : goal.returns
returns c = let a = c.args in text_long a.prefix.now a.name.now a.asked.now c.if-asked-n.false
