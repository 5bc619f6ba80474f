-- `set_in` meets its contract, below how many lists are below. Assumes nothing.
use mathlib.Core.Path.{refl, sym, ◌∙◌}
use native.Mathlib.Omega.{arith}
use Rattle.inode.proofs.SizeLaws.{units}
use Rattle.mapping.proofs.MappingLaws.{per-some}
use Rattle.refusal.proofs.ExitLaws.{passed}
use Rattle.books.proofs.SteadyLaws.{steady-refl}
use Rattle.inode_setblock.proofs.SetLaws.{set-bad, set_here, set_next, set-none, span-some, slot-in, rest_in, last_in}
use Rattle.inode_setblock.proofs.SetKeeps.{next-always, kept-by}
use Rattle.inode_setblock.proofs.+set_in.Goals as goal

pub returns-then-not-run_ok : goal.returns-then-not-run_ok
returns-then-not-run_ok t c = set-bad _ _ _ _ _ _ (sym c.run_ok.ensures ∙ c.if-not-run_ok.true)

pub put_entry-requires : goal.put_entry-requires
put_entry-requires t c =
    (c.requires.0, sym c.run_ok.ensures ∙ c.if-not-run_ok.false, last_in _ _ _ c.if-below-eq0.true c.requires.2)

pub returns-then-below-eq0 : goal.returns-then-below-eq0
returns-then-below-eq0 t c = set_here _ _ _ _ _ (sym c.run_ok.ensures ∙ c.if-not-run_ok.false) _ c.if-below-eq0.true c.put_entry.ensures

pub span_of-each-requires : goal.span_of-each-requires
span_of-each-requires t c = ((units _ c.requires.0.sizes).block_top, omega (arith, c.requires.1))

pub nonzero_div-rest : goal.nonzero_div-rest
nonzero_div-rest t c = span-some _ _ _ (per-some _ _ c.requires.0) c.span_of-each.ensures.0

pub next_list-requires : goal.next_list-requires
next_list-requires t c =
    (c.requires.0, sym c.run_ok.ensures ∙ c.if-not-run_ok.false, slot-in _ _ _ (per-some _ _ c.requires.0) c.span_of-each.ensures.0 _ c.requires.2)

pub nonzero_rem-rest : goal.nonzero_rem-rest
nonzero_rem-rest t c = span-some _ _ _ (per-some _ _ c.requires.0) c.span_of-each.ensures.0

pub set_in-requires : goal.set_in-requires
set_in-requires t c =
    let some = per-some _ _ c.requires.0 in
    let s = kept-by _ (next-always _ _ _ (steady-refl _ _ c.requires.0) _ _ (sym c.run_ok.ensures ∙ c.if-not-run_ok.false) (slot-in _ _ _ some c.span_of-each.ensures.0 _ c.requires.2)) c.in_ok-e.ensures in
    (omega (arith, c.decreases, c.if-below-eq0.false), (s.frame, omega (arith, c.requires.1), rest_in _ _ _ some c.span_of-each.ensures.0 _ c.if-below-eq0.false))

pub returns : goal.returns
returns t c =
    c.set_in.ensures
    ∙ set_next _ _ _ _ _ (sym c.run_ok.ensures ∙ c.if-not-run_ok.false) _ _ _ _ c.if-below-eq0.false c.span_of-each.ensures.0 refl refl c.in_ok-e.ensures refl

pub returns-in_err-e : goal.returns-in_err-e
returns-in_err-e t c =
    rw (passed _ _ c.from_residual.ensures) (set-none _ _ _ _ _ (sym c.run_ok.ensures ∙ c.if-not-run_ok.false) _ _ 0 _ c.if-below-eq0.false c.span_of-each.ensures.0 refl c.in_err-e.ensures refl)
