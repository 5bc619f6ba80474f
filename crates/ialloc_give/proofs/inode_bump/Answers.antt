-- `inode_bump` meets its contract. Assumes nothing.
use Rattle.std.proofs.Common.{◌<◌, sym, ◌∙◌, rules}
use Rattle.ialloc_give.proofs.GiveLaws.{bump-full, bump-left}
use Rattle.ialloc_give.proofs.inode_bump.Goals as goal

pub returns-then-n : goal.returns-then-n
returns-then-n c =
    bump-full _ _ _ (rw (← c.inode_spot-at.ensures.is) (sym c.read_nlink-n.ensures ∙ c.if-n.true))

pub returns : goal.returns
returns c =
    let small : c.read_nlink-n.result < 65536 = search rules in
    bump-left _ _ _ _ _ c.inode_spot-at.ensures.is c.read_nlink-n.ensures c.if-n.false small c.put_nlink.ensures
