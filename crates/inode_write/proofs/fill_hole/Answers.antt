-- `fill_hole` meets its contract. Assumes nothing.
use mathlib.Core.Path.{refl, ◌∙◌}
use native.Mathlib.Omega.{arith}
use Rattle.refusal.proofs.ExitLaws.{passed}
use Rattle.balloc_give.proofs.GiveLaws.{give-whole}
use Rattle.books.proofs.KeepLaws.{kept-left, keeps-give}
use Rattle.inode_setblock.proofs.GivenLaws.{given-left}
use Rattle.inode_write.proofs.WriteLaws.{hole-given, hole-none}
use Rattle.inode_write.proofs.fill_hole.Goals as goal

pub fill_given-requires : goal.fill_given-requires
fill_given-requires c =
    let k = c.requires in
    let w = give-whole _ _ _ _ _ c.in_ok-a.ensures in
    let s = kept-left _ (keeps-give _) k.0 w in
    (s.frame, omega (arith, s.long, k.1), k.2, given-left _ _ k.0 w refl, k.3, k.4, k.5)

pub returns : goal.returns
returns c = c.fill_given.ensures ∙ hole-given _ _ _ _ _ _ _ _ (give-whole _ _ _ _ _ c.in_ok-a.ensures) refl

pub returns-in_err-a : goal.returns-in_err-a
returns-in_err-a c = rw (passed _ _ c.from_residual.ensures) (hole-none _ _ _ _ _ _ _ _ (give-whole _ _ _ _ _ c.in_err-a.ensures) refl)
