-- `room_but` meets its contract. Assumes nothing.
use borrow.Author.Rules.{rules}
use mathlib.Core.Path.{ap, sym, ◌∙◌}
use Rattle.std.specs.Prelude.{Ok}
use Rattle.refusal.proofs.ExitLaws.{passed}
use Rattle.dirfile.proofs.SeekLaws.{seek-end, seek-here, seek-hurt, seek-next}
use Rattle.dirwalk.specs.Walk.{space_out}
use Rattle.rename_judge.proofs.RenameLaws.{but-odd, but-start}
use Rattle.rename_judge.proofs.room.room_but.Goals as goal

pub returns-then-not-size : goal.returns-then-not-size
returns-then-not-size c = but-odd _ _ _ _ _ _ c.if-not-size.true

pub loop-k-init : goal.loop-k-init
loop-k-init c = but-start _ _ _ _ _ _ c.if-not-size.false

pub returns-in_err-b : goal.returns-in_err-b
returns-in_err-b c = ap space_out (passed _ _ c.from_residual.ensures) ∙ sym (seek-hurt _ _ _ c.loop-k-test.true (sym c.in_err-b.ensures)) ∙ c.loop-k.invariant

pub returns-in-Some : goal.returns-in-Some
returns-in-Some c = sym (seek-here _ _ _ c.loop-k-test.true _ (sym c.in_ok-b.ensures ∙ ap (λ x. space_out (Ok x)) c.in-Some.is)) ∙ c.loop-k.invariant

pub loop-k-preserved : goal.loop-k-preserved
loop-k-preserved c = sym (seek-next _ _ _ c.loop-k-test.true (sym c.in_ok-b.ensures ∙ ap (λ x. space_out (Ok x)) c.in_default.is)) ∙ c.loop-k.invariant

pub returns : goal.returns
returns c = sym (seek-end _ _ _ c.loop-k-test.false) ∙ c.loop-k.invariant
