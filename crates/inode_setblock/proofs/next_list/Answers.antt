-- `next_list` meets its contract: the list is kept before the giving. Assumes nothing.
use mathlib.Core.Path.{refl, ◌∙◌}
use Rattle.refusal.proofs.ExitLaws.{passed}
use Rattle.books.proofs.SteadyLaws.{steady-run}
use Rattle.books.proofs.KeepLaws.{kept-left}
use Rattle.inode_setblock.proofs.GivenLaws.{keeps_zeroed}
use Rattle.inode_setblock.proofs.SetLaws.{next-there, next-given, next-none}
use Rattle.inode_setblock.proofs.next_list.Goals as goal

pub returns-then-next-ne0 : goal.returns-then-next-ne0
returns-then-next-ne0 c = next-there _ _ _ _ _ c.entry-next.ensures c.if-next-ne0.true

pub put_list-requires : goal.put_list-requires
put_list-requires c =
    let k = c.requires in
    let s = kept-left _ (keeps_zeroed _) k.0 c.in_ok-e.ensures in
    (s.frame, steady-run _ s _ _ ∙ k.1, k.2)

pub returns : goal.returns
returns c = next-given _ _ _ _ _ c.entry-next.ensures c.if-next-ne0.false c.in_ok-e.ensures refl _ c.keep_list.ensures c.put_list.ensures

pub returns-in_err-e : goal.returns-in_err-e
returns-in_err-e c = rw (passed _ _ c.from_residual.ensures) (next-none _ _ _ _ _ c.entry-next.ensures c.if-next-ne0.false c.in_err-e.ensures refl)
