-- `can_fall` meets its contract. Assumes nothing.
use borrow.Author.Rules.{rules}
use mathlib.Core.Path.{sym}
use Rattle.unlink_judge.proofs.UnlinkLaws.{fall-none, fall-some}
use Rattle.unlink_judge.proofs.can_fall.Goals as goal

pub returns-then-read_nlink-eq0 : goal.returns-then-read_nlink-eq0
returns-then-read_nlink-eq0 c = sym (fall-none _ _ _ _ _ c.inode_spot-at.ensures.is c.read_nlink.ensures c.if-read_nlink-eq0.true)

pub returns : goal.returns
returns c = sym (fall-some _ _ _ _ _ c.inode_spot-at.ensures.is c.read_nlink.ensures c.if-read_nlink-eq0.false)
