-- `others_dir` meets its contract: no block passed holds another record. Assumes nothing.
use borrow.Author.Rules.{rules}
use mathlib.Core.Path.{sym, ap, ◌∙◌}
use Rattle.std.specs.Prelude.{Ok}
use Rattle.refusal.proofs.ExitLaws.{passed}
use Rattle.dirfile.proofs.SeekLaws.{seek-here, seek-hurt, seek-next, seek-end}
use Rattle.dirother.specs.Other.{others_out}
use Rattle.dirother.proofs.OtherLaws.{others-start, others-odd}
use Rattle.dirother.proofs.others_dir.Goals as goal

pub returns-then-not-size : goal.returns-then-not-size
returns-then-not-size c = others-odd _ _ _ _ c.if-not-size.true

pub loop-k-init : goal.loop-k-init
loop-k-init c = others-start _ _ _ _ c.if-not-size.false

pub returns-in_err-other_block : goal.returns-in_err-other_block
returns-in_err-other_block c =
    ap others_out (passed _ _ c.from_residual.ensures) ∙ sym (seek-hurt _ _ _ c.loop-k-test.true (sym c.in_err-other_block.ensures)) ∙ c.loop-k.invariant

pub returns-then-branch : goal.returns-then-branch
returns-then-branch c = sym (seek-here _ _ _ c.loop-k-test.true _ (sym c.in_ok-other_block.ensures ∙ ap (λ x. others_out (Ok x)) c.if-branch.true)) ∙ c.loop-k.invariant

pub loop-k-preserved : goal.loop-k-preserved
loop-k-preserved c = sym (seek-next _ _ _ c.loop-k-test.true (sym c.in_ok-other_block.ensures ∙ ap (λ x. others_out (Ok x)) c.if-branch.false)) ∙ c.loop-k.invariant

pub returns : goal.returns
returns c = sym (seek-end _ _ _ c.loop-k-test.false) ∙ c.loop-k.invariant
