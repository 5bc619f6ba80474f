-- `put_parts` meets its contract. Assumes nothing.
use borrow.Author.Rules.{rules}
use Rattle.attrrec.proofs.TextLaws.{parts_told}
use Rattle.attrrec.proofs.put_parts.Goals as goal

pub returns : goal.returns
returns c = let a = c.args in parts_told a.at a.prefix.now a.name.now a.out.now _ _ _ c.copy_bytes.ensures c.copy_bytes-2.ensures c.zero_bytes.ensures
