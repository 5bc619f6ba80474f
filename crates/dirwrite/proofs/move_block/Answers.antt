-- `move_block` meets its contract. Assumes nothing.
use borrow.Author.Rules.{rules}
use mathlib.Core.Path.{refl, ◌∙◌}
use mathlib.Core.Bool.{true, false}
use Rattle.refusal.proofs.ExitLaws.{passed}
use Rattle.dirwrite.proofs.WriteLaws.{move-unread, move_read}
use Rattle.dirwrite.proofs.move_block.Goals as goal

pub returns-in_err-read_block : goal.returns-in_err-read_block
returns-in_err-read_block c = rw (passed _ _ c.from_residual.ensures) (move-unread _ _ _ _ _ false c.read_block.new.block c.in_err-read_block.ensures.0 refl)

pub returns : goal.returns
returns c = c.write_at.ensures ∙ move_read _ _ _ _ _ true _ c.in_ok-read_block.ensures.0 refl
