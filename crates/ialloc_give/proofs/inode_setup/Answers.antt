-- `inode_setup` meets its contract. Assumes nothing.
use Rattle.std.proofs.Common.{◌<◌, sym, ◌∙◌, rules}
use Rattle.ialloc_give.proofs.GiveLaws.{setup-linked, setup-full, setup_left}
use Rattle.ialloc_give.proofs.inode_setup.Goals as goal

pub returns-then-read_nlink-ne0 : goal.returns-then-read_nlink-ne0
returns-then-read_nlink-ne0 c =
    setup-linked _ _ _ _ (rw (← c.inode_spot-at.ensures.is, ← c.read_nlink.ensures) c.if-read_nlink-ne0.true)

pub returns-then-old : goal.returns-then-old
returns-then-old c =
    let e = c.inode_spot-at.ensures.is in
    setup-full _ _ _ _ (rw (← e) (sym c.read_nlink.ensures ∙ c.if-read_nlink-ne0.false)) (rw (← e) (sym c.read_generation-old.ensures ∙ c.if-old.true))

pub returns : goal.returns
returns c =
    let small : c.read_generation-old.result < 4294967296 = search rules in
    setup_left _ _ _ _ _ _ _ _ c.inode_spot-at.ensures.is c.read_nlink.ensures c.if-read_nlink-ne0.false c.read_generation-old.ensures c.if-old.false small c.with_link.ensures c.write_inode.ensures
