-- `resolve` meets its contract, below a level. Assumes nothing.
use mathlib.Core.Path.{sym, ◌∙◌}
use native.Mathlib.Omega.{arith}
use Rattle.inode.proofs.SizeLaws.{units}
use Rattle.mapping.proofs.ZoneLaws.{each-pos, slot-below, rest_below}
use Rattle.mapping.proofs.MappingLaws.{down-hole, down-at, down-bad, down-list, per-some}
use Rattle.mapping.proofs.+resolve.Goals as goal

pub returns-then-a-eq0 : goal.returns-then-a-eq0
returns-then-a-eq0 t c = down-hole _ _ _ _ _ _ c.if-a-eq0.true

pub returns-then-level-eq0 : goal.returns-then-level-eq0
returns-then-level-eq0 t c = down-at _ _ _ _ _ _ c.if-a-eq0.false c.if-level-eq0.true

pub returns-then-not-run_ok : goal.returns-then-not-run_ok
returns-then-not-run_ok t c = down-bad _ _ _ _ _ _ c.if-a-eq0.false c.if-level-eq0.false (sym c.run_ok.ensures ∙ c.if-not-run_ok.true)

pub span_of-each-requires : goal.span_of-each-requires
span_of-each-requires t c = ((units _ c.requires.0.sizes).block_top, omega (arith, c.requires.1))

pub nonzero_div-rest : goal.nonzero_div-rest
nonzero_div-rest t c = each-pos _ _ _ (per-some _ _ c.requires.0) c.span_of-each.ensures.0

pub entry-next-requires : goal.entry-next-requires
entry-next-requires t c =
    (c.requires.0, sym c.run_ok.ensures ∙ c.if-not-run_ok.false, slot-below _ _ _ (per-some _ _ c.requires.0) c.span_of-each.ensures.0 _ c.requires.2 c.if-level-eq0.false)

pub nonzero_rem-rest : goal.nonzero_rem-rest
nonzero_rem-rest t c = each-pos _ _ _ (per-some _ _ c.requires.0) c.span_of-each.ensures.0

pub resolve-requires : goal.resolve-requires
resolve-requires t c =
    (omega (arith, c.decreases, c.if-level-eq0.false), (c.requires.0, omega (arith, c.requires.1), rest_below _ _ _ (per-some _ _ c.requires.0) c.span_of-each.ensures.0 _))

pub returns : goal.returns
returns t c =
    c.resolve.ensures
    ∙ down-list _ _ _ _ _ _ _ _ c.if-a-eq0.false c.if-level-eq0.false (sym c.run_ok.ensures ∙ c.if-not-run_ok.false) c.span_of-each.ensures.0 c.entry-next.ensures
