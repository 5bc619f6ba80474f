-- `put_text` meets its contract. Assumes nothing.
use borrow.Author.Rules.{rules}
use Rattle.dirtext.proofs.TextLaws.{wrote_text}
use Rattle.dirtext.proofs.put_text.Goals as goal

pub returns : goal.returns
returns c = wrote_text _ _ _ _ c.copy_bytes.ensures
