-- `fill_given` meets its contract. Assumes nothing.
use mathlib.Core.Path.{refl}
use native.Mathlib.Omega.{arith}
use Rattle.refusal.proofs.ExitLaws.{passed}
use Rattle.frame.proofs.Places.{run_inside}
use Rattle.books.proofs.KeepLaws.{kept-left}
use Rattle.inode_setblock.proofs.GivenLaws.{block-bytes}
use Rattle.inode_setblock.proofs.SetKeeps.{keeps-set}
use Rattle.inode_write.proofs.WriteLaws.{given-many, given-set, given-not}
use Rattle.inode_write.proofs.fill_given.Goals as goal

pub returns-then-more-held : goal.returns-then-more-held
returns-then-more-held c = given-many _ _ _ _ _ _ _ _ _ _ refl (omega (arith, c.if-more-held.true))

pub put_fresh-requires : goal.put_fresh-requires
put_fresh-requires c =
    let k = c.requires in
    let s = kept-left _ (keeps-set _ _ k.2 _ _ _) k.0 c.in_ok-set_block.ensures in
    (omega (arith, run_inside _ _ k.0 _ _ k.3, block-bytes _ _ k.0, s.long, k.4), s.frame.laid.high, k.5, k.6)

pub returns : goal.returns
returns c = given-set _ _ _ _ _ _ _ _ _ _ refl (omega (arith, c.if-more-held.false)) c.in_ok-set_block.ensures refl c.put_fresh.ensures

pub returns-in_err-set_block : goal.returns-in_err-set_block
returns-in_err-set_block c = rw (passed _ _ c.from_residual.ensures) (given-not _ _ _ _ _ _ _ _ _ _ refl (omega (arith, c.if-more-held.false)) c.in_err-set_block.ensures refl)
