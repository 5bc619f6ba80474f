-- `shrink_small` meets its contract. Assumes nothing.
use mathlib.Core.Path.{refl, ◌∙◌}
use Rattle.refusal.proofs.ExitLaws.{passed}
use Rattle.books.proofs.KeepLaws.{kept-left}
use Rattle.ialloc_tree.proofs.TreeLaws.{keeps-tree}
use Rattle.inode_truncate.proofs.ZoneLaws.{low-on, low-refused}
use Rattle.inode_truncate.proofs.shrink_small.Goals as goal

pub shrink_direct-requires : goal.shrink_direct-requires
shrink_direct-requires c =
    let k = c.requires in
    let st = kept-left _ (keeps-tree _ _ _ _ _ _) k.0 c.in_ok-n.ensures in
    (st.frame, rw st.long k.1)

pub returns : goal.returns
returns c =
    c.shrink_direct.ensures ∙ low-on _ _ _ _ _ _ c.requires.2 _ c.read_address-a.ensures c.in_ok-n.ensures refl

pub returns-in_err-n : goal.returns-in_err-n
returns-in_err-n c =
    rw (passed _ _ c.from_residual.ensures) (low-refused _ _ _ _ _ _ c.requires.2 _ c.read_address-a.ensures c.in_err-n.ensures refl)
