-- `put-byte` meets its contract. Assumes nothing.
use borrow.Author.Rules.{rules}
use Rattle.dirtext.proofs.TextLaws.{wrote-byte}
use Rattle.dirtext.proofs.put_byte.Goals as goal

pub returns : goal.returns
returns c = wrote-byte _ _ _
