-- `drop_end` meets its contract. Assumes nothing.
use borrow.Author.Rules.{rules}
use Rattle.inode.proofs.SizeLaws.{units}
use Rattle.dirjudge.proofs.JudgeLaws.{end-is}
use Rattle.dirjudge.proofs.drop_end.Goals as goal

pub zones_bytes-requires : goal.zones_bytes-requires
zones_bytes-requires c = (units _ c.requires.0).block_top

pub returns-then-h-zones_bytes : goal.returns-then-h-zones_bytes
returns-then-h-zones_bytes c = end-is _ _ _ _ c.zones_bytes.ensures _ c.if-h-zones_bytes.true

pub returns : goal.returns
returns c = end-is _ _ _ _ c.zones_bytes.ensures _ c.if-h-zones_bytes.false
