-- `walk::find_in` meets its contract: no attribute passed has the text. Assumes nothing.
use borrow.Author.Rules.{rules}
use mathlib.Core.Path.{sym, ap, ◌∙◌}
use native.Mathlib.Omega.{arith}
use Rattle.std.specs.Prelude.{Ok}
use Rattle.refusal.proofs.ExitLaws.{passed}
use Rattle.attrrec.proofs.WalkLaws.{sized}
use Rattle.attrrec.proofs.SearchLaws.{search-hit, search-pass, search-end, search-bad, find_start}
use Rattle.xattr.proofs.AreaLaws.{length-gathered}
use Rattle.xattr.proofs.walk.find_in.Goals as goal

pub loop-e-init : goal.loop-e-init
loop-e-init c = (search rules, find_start _ _ _)

pub attr_in-requires : goal.attr_in-requires
attr_in-requires c = c.requires

pub is_named-requires : goal.is_named-requires
is_named-requires c = let s = sized _ _ _ _ (sym c.in_ok-e.ensures ∙ ap Ok c.in-Some.is) in let g = length-gathered _ _ c.requires in (c.requires, omega (arith, s.name, g), s.short)

pub returns-then-is_named : goal.returns-then-is_named
returns-then-is_named c = sym (search-hit _ _ _ _ _ (sym c.in_ok-e.ensures ∙ ap Ok c.in-Some.is) (sym c.is_named.ensures ∙ c.if-is_named.true)) ∙ c.loop-e.invariant.1

pub overflow_add-b : goal.overflow_add-b
overflow_add-b c = let s = sized _ _ _ _ (sym c.in_ok-e.ensures ∙ ap Ok c.in-Some.is) in let g = length-gathered _ _ c.requires in omega (arith, s.inside, g, c.requires.small)

pub loop-e-smaller : goal.loop-e-smaller
loop-e-smaller c = let s = sized _ _ _ _ (sym c.in_ok-e.ensures ∙ ap Ok c.in-Some.is) in let g = length-gathered _ _ c.requires in omega (arith, s.inside, s.long, g)

pub loop-e-preserved : goal.loop-e-preserved
loop-e-preserved c = let s = sized _ _ _ _ (sym c.in_ok-e.ensures ∙ ap Ok c.in-Some.is) in let g = length-gathered _ _ c.requires in (omega (arith, s.inside, g), sym (search-pass _ _ _ _ _ (sym c.in_ok-e.ensures ∙ ap Ok c.in-Some.is) (sym c.is_named.ensures ∙ c.if-is_named.false)) ∙ c.loop-e.invariant.1)

pub returns : goal.returns
returns c = sym (search-end _ _ _ _ (sym c.in_ok-e.ensures ∙ ap Ok c.in_default.is)) ∙ c.loop-e.invariant.1

pub returns-in_err-e : goal.returns-in_err-e
returns-in_err-e c = passed _ _ c.from_residual.ensures ∙ sym (search-bad _ _ _ _ (sym c.in_err-e.ensures)) ∙ c.loop-e.invariant.1
