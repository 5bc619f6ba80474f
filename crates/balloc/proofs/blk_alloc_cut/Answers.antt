-- `blk_alloc_cut` meets its contract: 97, 30, 22, or the giving as far as the first k stores. Assumes nothing.
use borrow.Author.Rules.{rules}
use borrow.Author.Tests.{not-true, not-false}
use mathlib.Core.Path.{refl, sym, ◌∙◌}
use native.Mathlib.Omega.{arith}
use Rattle.refusal.proofs.ExitLaws.{passed}
use Rattle.balloc.proofs.CallLaws.{taken-frame, alloc-unsound, alloc-read-only, alloc-bad-size, alloc-done}
use Rattle.balloc.proofs.blk_alloc_cut.Goals as goal

pub returns-then-not-vol : goal.returns-then-not-vol
returns-then-not-vol c = alloc-read-only _ _ _ _ _ (sym c.in_ok-geo.ensures) (not-true _ c.if-not-vol.true)

pub good_size-requires : goal.good_size-requires
good_size-requires c =
    let f = taken-frame _ _ (sym c.in_ok-geo.ensures) in
    omega (arith, f.laid.unit)

pub returns-then-not-good_size : goal.returns-then-not-good_size
returns-then-not-good_size c =
    alloc-bad-size _ _ _ _ _ (sym c.in_ok-geo.ensures)
    (not-false _ c.if-not-vol.false) (sym c.good_size.ensures ∙ c.if-not-good_size.true)

pub blk_alloc_full-requires : goal.blk_alloc_full-requires
blk_alloc_full-requires c = taken-frame _ _ (sym c.in_ok-geo.ensures)

pub returns : goal.returns
returns c =
    alloc-done _ _ _ _ _ (sym c.in_ok-geo.ensures)
    (not-false _ c.if-not-vol.false)
    (sym c.good_size.ensures ∙ c.if-not-good_size.false)
    _ _ _ _ c.in_ok-a.ensures refl

pub returns-in_err-geo : goal.returns-in_err-geo
returns-in_err-geo c = rw (passed _ _ c.from_residual.ensures) (alloc-unsound _ _ _ _ (sym c.in_err-geo.ensures))

pub returns-in_err-a : goal.returns-in_err-a
returns-in_err-a c =
    rw (passed _ _ c.from_residual-in_err-a.ensures)
    (alloc-done _ _ _ _ _ (sym c.in_ok-geo.ensures)
    (not-false _ c.if-not-vol.false)
    (sym c.good_size.ensures ∙ c.if-not-good_size.false)
    _ _ _ _ c.in_err-a.ensures refl)
