-- `find_dir` meets its contract: no block passed has the name. Assumes nothing.
use borrow.Author.Rules.{rules}
use mathlib.Core.Path.{sym, ap, ◌∙◌}
use Rattle.std.specs.Prelude.{Ok}
use Rattle.refusal.proofs.ExitLaws.{passed}
use Rattle.dirfile.proofs.SeekLaws.{seek-here, seek-hurt, seek-next, seek-end}
use Rattle.dirwalk.specs.Walk.{seen_out}
use Rattle.dirwalk.proofs.WalkLaws.{find_start, find-odd}
use Rattle.dirwalk.proofs.find_dir.Goals as goal

pub returns-then-not-size : goal.returns-then-not-size
returns-then-not-size c = find-odd _ _ _ _ _ c.if-not-size.true

pub loop-k-init : goal.loop-k-init
loop-k-init c = find_start _ _ _ _ _ c.if-not-size.false

pub returns-in_err-h : goal.returns-in_err-h
returns-in_err-h c =
    ap seen_out (passed _ _ c.from_residual.ensures) ∙ sym (seek-hurt _ _ _ c.loop-k-test.true (sym c.in_err-h.ensures)) ∙ c.loop-k.invariant

pub returns-in-Some : goal.returns-in-Some
returns-in-Some c = sym (seek-here _ _ _ c.loop-k-test.true _ (sym c.in_ok-h.ensures ∙ ap (λ x. seen_out (Ok x)) c.in-Some.is)) ∙ c.loop-k.invariant

pub loop-k-preserved : goal.loop-k-preserved
loop-k-preserved c = sym (seek-next _ _ _ c.loop-k-test.true (sym c.in_ok-h.ensures ∙ ap (λ x. seen_out (Ok x)) c.in_default.is)) ∙ c.loop-k.invariant

pub returns : goal.returns
returns c = sym (seek-end _ _ _ c.loop-k-test.false) ∙ c.loop-k.invariant
