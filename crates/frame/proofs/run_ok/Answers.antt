-- `run_ok` meets its contract. Assumes nothing.
use borrow.Author.Rules.{rules}
use mathlib.Core.Path.{sym, ◌∙◌}
use native.Mathlib.Nat.{mod-lt}
use Rattle.frame.proofs.Places.{run-stop, run-go}
use Rattle.frame.proofs.run_ok.Goals as goal

pub returns-then-geo-place : goal.returns-then-geo-place
returns-then-geo-place c = sym (run-stop _ _ _ _ c.if-geo-place.true)

pub place_ok-requires : goal.place_ok-requires
place_ok-requires c = (c.requires, c.if-geo-place.false, mod-lt _ c.requires.laid.wide)

pub returns : goal.returns
returns c = c.place_ok.ensures ∙ sym (run-go _ _ _ _ c.if-geo-place.false)
