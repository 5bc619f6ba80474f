-- `write_first` meets its contract. Assumes nothing.
use borrow.Author.Rules.{rules}
use mathlib.Core.Path.{refl}
use Rattle.refusal.proofs.ExitLaws.{passed}
use Rattle.books.proofs.KeepLaws.{kept-left}
use Rattle.inode_write.proofs.CallLaws.{in_table}
use Rattle.inode_write.proofs.BlocksKeep.{keeps_write}
use Rattle.dirmake.proofs.MakeLaws.{first_done, first-stop}
use Rattle.dirmake.proofs.write_first.Goals as goal

pub attr_now-requires : goal.attr_now-requires
attr_now-requires c = let p = c.requires in ((kept-left _ (keeps_write _ _ (in_table _ _ _ _ c.inode_spot-at.ensures) _ _ _) p.0 c.in_ok-write_at.ensures).frame, p.1)

pub returns : goal.returns
returns c = first_done _ _ _ _ _ refl c.inode_spot-at.ensures.is c.newdir-block.ensures c.in_ok-write_at.ensures refl c.attr_now.ensures

pub returns-in_err-write_at : goal.returns-in_err-write_at
returns-in_err-write_at c = rw (passed _ _ c.from_residual.ensures) (first-stop _ _ _ _ _ refl c.inode_spot-at.ensures.is c.newdir-block.ensures c.in_err-write_at.ensures refl)
