-- `dirlist` meets its contract. Assumes nothing.
use borrow.Author.Rules.{rules}
use Rattle.dirtext.proofs.TextLaws.{listed-whole, listed-other}
use Rattle.dirtext.proofs.dirlist.Goals as goal

pub returns-then-input-eq512 : goal.returns-then-input-eq512
returns-then-input-eq512 c = (listed-whole _ _ _ _ _ c.if-input-eq512.true c.list_block.ensures, search rules)

pub returns : goal.returns
returns c = (listed-other _ _ _ _ _ c.if-input-eq512.false c.put_text.ensures, search rules)
