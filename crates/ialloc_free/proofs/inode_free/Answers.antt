-- `inode_free` meets its contract: the record is copied before the first store. Assumes nothing.
use borrow.Author.Rules.{rules}
use mathlib.Core.Path.{refl, ◌∙◌}
use Rattle.ialloc_free.proofs.FreeLaws.{free-none, free-fewer, free-last, copied, copied_long, nlink-frame}
use Rattle.ialloc_free.proofs.inode_free.Goals as goal

pub returns-then-n-eq0 : goal.returns-then-n-eq0
returns-then-n-eq0 c = free-none _ _ _ _ _ c.inode_spot-at.ensures.is c.read_nlink-n.ensures c.if-n-eq0.true

pub free_unlinked-requires : goal.free_unlinked-requires
free_unlinked-requires c =
    let s = c.requires in
    (nlink-frame _ _ s.2 _ _ c.inode_spot-at.ensures.is s.0 c.put_nlink.ensures, s.1, s.2, copied_long _ _ _ _ refl c.copy_bytes.ensures)

pub returns-then-n-eq1 : goal.returns-then-n-eq1
returns-then-n-eq1 c =
    free-last _ _ _ _ _ c.inode_spot-at.ensures.is c.read_nlink-n.ensures c.if-n-eq0.false c.put_nlink.ensures c.if-n-eq1.true _
    (c.copy_bytes.ensures ∙ copied _ _ _ refl c.inode_spot-at.ensures.inside) c.free_unlinked.ensures

pub returns : goal.returns
returns c =
    free-fewer _ _ _ _ _ c.inode_spot-at.ensures.is c.read_nlink-n.ensures c.if-n-eq0.false c.put_nlink.ensures c.if-n-eq1.false
