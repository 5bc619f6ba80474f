-- `list::measure` meets its contract: what was passed is counted. Assumes nothing.
use borrow.Author.Rules.{rules}
use mathlib.Core.Path.{sym, ap, ◌∙◌}
use native.Mathlib.Omega.{arith}
use Rattle.std.specs.Prelude.{Ok}
use Rattle.refusal.proofs.ExitLaws.{passed}
use Rattle.attrrec.proofs.RecordLaws.{held, gap-low}
use Rattle.attrrec.proofs.WalkLaws.{sized}
use Rattle.xattr.proofs.AreaLaws.{length-gathered}
use Rattle.xattr.proofs.ListLaws.{measure-start, measure-step, measure-end, measure-bad}
use Rattle.xattr.proofs.list.measure.Goals as goal

pub loop-e-init : goal.loop-e-init
loop-e-init c = (search rules, search rules, measure-start _ _)

pub attr_in-requires : goal.attr_in-requires
attr_in-requires c = c.requires

pub overflow_add-n : goal.overflow_add-n
overflow_add-n c = let s = sized _ _ _ _ (sym c.in_ok-e.ensures ∙ ap Ok c.in-Some.is) in let g = length-gathered _ _ c.requires in omega (arith, c.text_len-n.ensures.1, c.loop-e.invariant.0, c.loop-e.invariant.1, s.short, c.requires.small)

pub overflow_add-b : goal.overflow_add-b
overflow_add-b c = let s = sized _ _ _ _ (sym c.in_ok-e.ensures ∙ ap Ok c.in-Some.is) in let g = length-gathered _ _ c.requires in omega (arith, s.inside, g, c.requires.small)

pub loop-e-smaller : goal.loop-e-smaller
loop-e-smaller c = let s = sized _ _ _ _ (sym c.in_ok-e.ensures ∙ ap Ok c.in-Some.is) in let g = length-gathered _ _ c.requires in omega (arith, s.inside, s.long, g)

pub loop-e-preserved : goal.loop-e-preserved
loop-e-preserved c = let s = sized _ _ _ _ (sym c.in_ok-e.ensures ∙ ap Ok c.in-Some.is) in let g = length-gathered _ _ c.requires in (omega (arith, s.inside, g), omega (arith, c.text_len-n.ensures.1, c.loop-e.invariant.1, (held _ _ _ _ (sym c.in_ok-e.ensures ∙ ap Ok c.in-Some.is)).least, gap-low c.loop-e.b c.in-Some.e.namelen), sym (measure-step _ _ _ _ _ (sym c.in_ok-e.ensures ∙ ap Ok c.in-Some.is) s.name _ c.text_len-n.ensures.0) ∙ c.loop-e.invariant.2)

pub returns : goal.returns
returns c = sym (measure-end _ _ _ _ (sym c.in_ok-e.ensures ∙ ap Ok c.in_default.is)) ∙ c.loop-e.invariant.2

pub returns-in_err-e : goal.returns-in_err-e
returns-in_err-e c = passed _ _ c.from_residual.ensures ∙ sym (measure-bad _ _ _ _ (sym c.in_err-e.ensures)) ∙ c.loop-e.invariant.2
