-- `judge_in` meets its contract. Assumes nothing.
use borrow.Author.Rules.{rules}
use mathlib.Core.Path.{refl}
use Rattle.rename_judge.proofs.RenameLaws.{same-is, source-holds, target-holds, way-is}
use Rattle.rename_judge.proofs.VerdictLaws.{in-moving, in-same}
use Rattle.rename_judge.proofs.judge_in.Goals as goal

pub returns-then-ddinr-sdinr : goal.returns-then-ddinr-sdinr
returns-then-ddinr-sdinr c = in-same _ _ _ _ _ c.spot_at-to.ensures.0 c.spot_at-from.ensures.0 _ c.inode_in-moved.ensures (same-is _ _ c.same_name.ensures _ c.if-ddinr-sdinr.true) _ c.judge_same.ensures

pub judge_met-requires : goal.judge_met-requires
judge_met-requires c = let p = c.requires in (p.0, c.spot_at-to.ensures.1, target-holds _ _ _ _ _ _ _ _ c.meet-m.ensures, source-holds _ _ _ _ _ _ _ _ c.meet-m.ensures, way-is _ _ _ _ _ _ _ _ c.meet-m.ensures)

pub returns : goal.returns
returns c = in-moving _ _ _ _ _ c.spot_at-to.ensures.0 c.spot_at-from.ensures.0 _ refl _ c.meet-m.ensures (same-is _ _ c.same_name.ensures _ c.if-ddinr-sdinr.false) _ c.judge_met.ensures
