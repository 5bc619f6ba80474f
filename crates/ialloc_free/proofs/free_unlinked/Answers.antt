-- `free_unlinked` meets its contract: after each step the layout is as it was. Assumes nothing.
use borrow.Author.Rules.{rules}
use mathlib.Core.Bool.{true}
use mathlib.Core.Path.{refl}
use native.Mathlib.Nat.{mod-le}
use native.Mathlib.Omega.{arith}
use Rattle.refusal.proofs.ExitLaws.{passed}
use Rattle.books.proofs.KeepLaws.{kept-left}
use Rattle.ialloc_give.proofs.MarkLaws.{keeps_count}
use Rattle.ialloc_free.proofs.FreeLaws.{unlinked-bad, unlinked-made, zero-frame, group_of, clear-frame}
use Rattle.ialloc_free.proofs.free_unlinked.Goals as goal

pub overflow_cast-i : goal.overflow_cast-i
overflow_cast-i c =
    omega (arith, c.requires.2, c.requires.0.sizes.inodes, mod-le c.args.inr.0 c.args.geo.ipg)

pub clear_used-requires : goal.clear_used-requires
clear_used-requires c =
    let p = c.requires in
    let g = group_of _ _ p.2 _ c.ino_to_cg-g.ensures p.0 in
    (zero-frame _ _ p.2 _ c.inode_spot-at.ensures.is p.0 c.zero_bytes.ensures, g.0, g.1)

pub count_inode-requires : goal.count_inode-requires
count_inode-requires c =
    let p = c.requires in
    let e = c.ino_to_cg-g.ensures in
    (clear-frame _ _ p.2 p.1 _ e (zero-frame _ _ p.2 _ c.inode_spot-at.ensures.is p.0 c.zero_bytes.ensures) c.in_ok-clear_used.ensures, (group_of _ _ p.2 _ e p.0).0)

pub free_data-requires : goal.free_data-requires
free_data-requires c =
    let p = c.requires in
    let e = c.ino_to_cg-g.ensures in
    let f = clear-frame _ _ p.2 p.1 _ e (zero-frame _ _ p.2 _ c.inode_spot-at.ensures.is p.0 c.zero_bytes.ensures) c.in_ok-clear_used.ensures in
    ((kept-left _ (keeps_count _ true _ (group_of _ _ p.2 _ e p.0).0) f c.count_inode.ensures).frame, p.3)

pub returns : goal.returns
returns c =
    unlinked-made _ _ _ _ c.inode_spot-at.ensures.is c.zero_bytes.ensures _ _ c.ino_to_cg-g.ensures c.in_ok-clear_used.ensures
    refl c.count_inode.ensures c.free_data.ensures

pub returns-in_err-clear_used : goal.returns-in_err-clear_used
returns-in_err-clear_used c =
    rw (passed _ _ c.from_residual.ensures)
    (unlinked-bad _ _ _ _ c.inode_spot-at.ensures.is c.zero_bytes.ensures _ _ c.ino_to_cg-g.ensures c.in_err-clear_used.ensures refl)
