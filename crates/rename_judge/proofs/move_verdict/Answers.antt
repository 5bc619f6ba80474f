-- `move_verdict` meets its contract. Assumes nothing.
use borrow.Author.Rules.{rules}
use Rattle.rename_judge.proofs.RenameLaws.{looked-number}
use Rattle.rename_judge.proofs.move_verdict.Goals as goal

pub spot_at-s-requires : goal.spot_at-s-requires
spot_at-s-requires c = (c.requires.0, looked-number _ _ _ c.in_ok-i.i (search rules) c.requires.1)
