-- `blocks::gather` meets its contract: the bytes lie in one block, or in both. Assumes nothing.
use Rattle.xattr.proofs.AreaLaws.{copied-first, copied-second, copied-both}
use Rattle.xattr.proofs.blocks.gather.Goals as goal

pub returns-then-split-from : goal.returns-then-split-from
returns-then-split-from c = copied-second _ _ c.requires.0 _ _ _ _ _ c.if-split-from.true c.requires.1 c.copy_bytes.ensures

pub returns-then-from-n : goal.returns-then-from-n
returns-then-from-n c = copied-first _ _ c.requires.0 _ _ _ _ _ c.if-from-n.true c.copy_bytes-then-from-n.ensures

pub returns : goal.returns
returns c = copied-both _ _ c.requires.0 _ _ _ _ _ _ c.if-split-from.false c.if-from-n.false c.requires.1 c.copy_bytes-2.ensures c.copy_bytes-3.ensures
