-- `give_at` meets its contract. Assumes nothing.
use Rattle.std.proofs.Common.{refl, arith, rules}
use Rattle.refusal.proofs.ExitLaws.{passed}
use Rattle.bits.proofs.UptoLaws.{as_bit-true}
use Rattle.books.proofs.KeepLaws.{kept-left}
use Rattle.ialloc_give.proofs.MarkLaws.{mark-left, keeps-mark}
use Rattle.ialloc_give.proofs.ChooseLaws.{number_in, number-is}
use Rattle.ialloc_give.proofs.GiveLaws.{give-made, give-refused, keeps-setup}
use Rattle.ialloc_give.proofs.give_at.Goals as goal

pub overflow_cast-i : goal.overflow_cast-i
overflow_cast-i c =
    let a = c.args in
    omega (arith, c.requires.0.sizes.inodes, number_in a.geo a.g a.k c.requires.1 c.requires.2, number-is a.geo a.g a.k _ c.product.ensures.0)

pub inode_setup-requires : goal.inode_setup-requires
inode_setup-requires c =
    let a = c.args in (
      (kept-left _ (keeps-mark _ 1 _ _ c.requires.1 c.requires.2 (omega arith) (λ _ _. refl)) c.requires.0 (mark-left 1 _ _ _ _ (as_bit-true refl) c.mark_used.ensures)).frame,
      rw (number-is a.geo a.g a.k _ c.product.ensures.0) (number_in _ _ _ c.requires.1 c.requires.2),
    )

pub count_inode-requires : goal.count_inode-requires
count_inode-requires c =
    let a = c.args in
    let r = kept-left _ (keeps-mark _ 1 _ _ c.requires.1 c.requires.2 (omega arith) (λ _ _. refl)) c.requires.0 (mark-left 1 _ _ _ _ (as_bit-true refl) c.mark_used.ensures) in
    ((kept-left _ (keeps-setup _ _ _ (rw (number-is a.geo a.g a.k _ c.product.ensures.0) (number_in _ _ _ c.requires.1 c.requires.2))) r.frame c.in_ok-inode_setup.ensures).frame, c.requires.1)

pub returns : goal.returns
returns c =
    let a = c.args in
    give-made _ _ _ _ _ _ (number-is a.geo a.g a.k _ c.product.ensures.0) (mark-left 1 _ _ _ _ (as_bit-true refl) c.mark_used.ensures) c.in_ok-inode_setup.ensures
    refl c.count_inode.ensures

pub returns-in_err-inode_setup : goal.returns-in_err-inode_setup
returns-in_err-inode_setup c =
    let a = c.args in
    rw (passed _ _ c.from_residual.ensures)
    (give-refused _ _ _ _ _ _ (number-is a.geo a.g a.k _ c.product.ensures.0) (mark-left 1 _ _ _ _ (as_bit-true refl) c.mark_used.ensures) c.in_err-inode_setup.ensures refl)
