-- `remain_all` meets its contract. Assumes nothing.
use borrow.Author.Rules.{rules}
use native.Mathlib.Omega.{arith}
use Rattle.rmdir_judge.proofs.StepLaws.{remain-is}
use Rattle.rmdir_judge.proofs.remain_all.Goals as goal

pub remains_after-requires : goal.remains_after-requires
remains_after-requires c = let p = c.requires in (p.0, p.1.gone)

pub remains_after-requires-2 : goal.remains_after-requires-2
remains_after-requires-2 c = let p = c.requires in (p.0, p.1.own)

pub overflow_add-by_up : goal.overflow_add-by_up
overflow_add-by_up c = omega (arith, c.falls_with-by_up.ensures.1, c.falls_with-by_own.ensures.1)

pub remains_after-requires-3 : goal.remains_after-requires-3
remains_after-requires-3 c = let p = c.requires in (p.0, p.1.gone)

pub returns : goal.returns
returns c = remain-is _ _ _ _ _ _ _ _ c.falls_with-by_up.ensures.0 c.falls_with-by_own.ensures.0 c.falls_with.ensures.0 _ _ _ c.remains_after.ensures c.remains_after-2.ensures c.remains_after-3.ensures
