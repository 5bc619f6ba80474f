-- `judge_rename` meets its contract. Assumes nothing.
use borrow.Author.Rules.{rules}
use Rattle.rename_judge.proofs.RenameLaws.{two_both, two-is}
use Rattle.rename_judge.proofs.VerdictLaws.{goes_on, number-low, short-length, stop-lengths, stop-names, stop-numbers}
use Rattle.rename_judge.proofs.judge_rename.Goals as goal

pub returns-then-not-is_taken : goal.returns-then-not-is_taken
returns-then-not-is_taken c = stop-names _ _ _ (two-is _ _ _ _ c.is_taken.ensures c.is_taken-2.ensures _ (c.if-not-is_taken.true))

pub returns-then-not-is_short : goal.returns-then-not-is_short
returns-then-not-is_short c = stop-lengths _ _ _ (two-is _ _ _ _ c.is_taken.ensures c.is_taken-2.ensures _ (c.if-not-is_taken.false)) (two-is _ _ _ _ c.is_short.ensures c.is_short-2.ensures _ (c.if-not-is_short.true))

pub returns-then-not-number_ok : goal.returns-then-not-number_ok
returns-then-not-number_ok c = stop-numbers _ _ _ (two-is _ _ _ _ c.is_taken.ensures c.is_taken-2.ensures _ (c.if-not-is_taken.false)) (two-is _ _ _ _ c.is_short.ensures c.is_short-2.ensures _ (c.if-not-is_short.false)) (two-is _ _ _ _ c.number_ok.ensures c.number_ok-2.ensures _ (c.if-not-number_ok.true))

pub judge_in-requires : goal.judge_in-requires
judge_in-requires c = (c.requires, number-low _ _ (two_both _ _ _ _ c.number_ok.ensures c.number_ok-2.ensures (c.if-not-number_ok.false)).1, number-low _ _ (two_both _ _ _ _ c.number_ok.ensures c.number_ok-2.ensures (c.if-not-number_ok.false)).0, short-length _ (two_both _ _ _ _ c.is_short.ensures c.is_short-2.ensures (c.if-not-is_short.false)).0)

pub returns : goal.returns
returns c = goes_on _ _ _ (two-is _ _ _ _ c.is_taken.ensures c.is_taken-2.ensures _ (c.if-not-is_taken.false)) (two-is _ _ _ _ c.is_short.ensures c.is_short-2.ensures _ (c.if-not-is_short.false)) (two-is _ _ _ _ c.number_ok.ensures c.number_ok-2.ensures _ (c.if-not-number_ok.false)) _ c.judge_in.ensures
