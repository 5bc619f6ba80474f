-- `room_out` meets its contract. Assumes nothing.
use borrow.Author.Rules.{rules}
use Rattle.refusal.proofs.ExitLaws.{passed}
use Rattle.dirwalk.specs.Walk.{seen_out, space_out}
use Rattle.rename_judge.proofs.RenameLaws.{both_is, both_no, ends-link, room-is}
use Rattle.rename_judge.proofs.room.room_out.Goals as goal

pub returns-in_err-ends_out : goal.returns-in_err-ends_out
returns-in_err-ends_out c = room-is c.args.geo c.args.img.now c.args.to c.args.old c.args.n (seen_out c.args.source) (seen_out c.args.target) _ c.room_then-room.ensures _ (both_no _ _ _ _ (passed _ _ c.from_residual.ensures) c.in_err-ends_out.ensures)

pub tails_out-requires : goal.tails_out-requires
tails_out-requires c = let p = c.requires in (p.0, p.1, p.2, p.3, ends-link c.args.geo c.args.to.shape.size c.args.old (seen_out c.args.source) (seen_out c.args.target) (space_out c.room_then-room.result) c.in_ok-ends_out.ensures)

pub returns : goal.returns
returns c = room-is c.args.geo c.args.img.now c.args.to c.args.old c.args.n (seen_out c.args.source) (seen_out c.args.target) _ c.room_then-room.ensures _ (both_is _ _ _ c.in_ok-ends_out.ensures c.tails_out.ensures)
