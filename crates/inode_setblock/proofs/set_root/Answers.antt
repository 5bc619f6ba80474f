-- `set_root` meets its contract. Assumes nothing.
use mathlib.Core.Path.{refl}
use Rattle.refusal.proofs.ExitLaws.{passed}
use Rattle.books.proofs.KeepLaws.{kept-left}
use Rattle.inode_setblock.proofs.GivenLaws.{keeps_zeroed}
use Rattle.inode_setblock.proofs.SetLaws.{root_none, root-set, root-not}
use Rattle.inode_setblock.proofs.set_root.Goals as goal

pub set_in-requires : goal.set_in-requires
set_in-requires c = let k = c.requires in ((kept-left _ (keeps_zeroed _) k.0 c.in_ok-r.ensures).frame, k.3, k.4)

pub returns : goal.returns
returns c = root-set _ _ _ _ _ _ _ _ c.in_ok-r.ensures refl c.in_ok-set_in.ensures refl c.put_record.ensures

pub returns-in_err-set_in : goal.returns-in_err-set_in
returns-in_err-set_in c = rw (passed _ _ c.from_residual-in_err-set_in.ensures) (root-not _ _ _ _ _ _ _ _ c.in_ok-r.ensures refl c.in_err-set_in.ensures refl)

pub returns-in_err-r : goal.returns-in_err-r
returns-in_err-r c = rw (passed _ _ c.from_residual.ensures) (root_none _ _ _ _ _ _ _ _ c.in_err-r.ensures refl)
