-- `shrink` meets its contract. Assumes nothing.
use mathlib.Core.Path.{refl, ◌∙◌}
use Rattle.refusal.proofs.ExitLaws.{passed}
use Rattle.books.proofs.KeepLaws.{kept-left}
use Rattle.ialloc_tree.proofs.TreeLaws.{keeps-tree}
use Rattle.inode_truncate.proofs.ZoneLaws.{all-on, all-refused}
use Rattle.inode_truncate.proofs.shrink.Goals as goal

pub shrink_mid-requires : goal.shrink_mid-requires
shrink_mid-requires c =
    let k = c.requires in
    let st = kept-left _ (keeps-tree _ _ _ _ _ _) k.0 c.in_ok-n.ensures in
    (st.frame, rw st.long k.1, k.2)

pub returns : goal.returns
returns c =
    c.shrink_mid.ensures ∙ all-on _ _ _ _ _ _ c.read_address-a.ensures c.in_ok-n.ensures refl

pub returns-in_err-n : goal.returns-in_err-n
returns-in_err-n c =
    rw (passed _ _ c.from_residual.ensures) (all-refused _ _ _ _ _ _ c.read_address-a.ensures c.in_err-n.ensures refl)
