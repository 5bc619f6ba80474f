-- `judge_room` meets its contract. Assumes nothing.
use borrow.Author.Rules.{rules}
use mathlib.Core.Bool.{true, false}
use mathlib.Core.Path.{sym}
use Rattle.stages.proofs.StagesLaws.{both_first}
use Rattle.mknod_judge.proofs.MakeLaws.{raise-is, room-left}
use Rattle.mknod_judge.proofs.judge_room.Goals as goal

pub returns-then-raises-read_nlink : goal.returns-then-raises-read_nlink
returns-then-raises-read_nlink c = sym (both_first _ _ _ (raise-is _ _ _ _ _ c.read_nlink.ensures true c.if-raises-read_nlink.true))

pub returns : goal.returns
returns c =
    room-left _ _ _ _ (raise-is _ _ _ _ _ c.read_nlink.ensures false c.if-raises-read_nlink.false) _ _ c.room_dir-room.ensures c.judge_link.ensures
