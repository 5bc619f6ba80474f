-- `counts_fit` meets its contract: the tests in order, one law for each arm. Assumes nothing.
use Rattle.std.proofs.Common.{sym, ◌∙◌, rules}
use Rattle.balloc_take.proofs.TestLaws.{fits-block, fits_not, fits_whole, fits-part}
use borrow.Author.Tests.{not-true, not-false}
use Rattle.balloc_take.proofs.counts_fit.Goals as goal

pub returns-then-n-geo : goal.returns-then-n-geo
returns-then-n-geo c =
    let a = c.args in
    c.block_fits.ensures ∙ rw (c.counts_at-c.ensures, c.read_totals-t.ensures) (sym (fits-block a.geo a.g a.f a.n a.img.now c.if-n-geo.true))

pub returns-then-not-frags_fit : goal.returns-then-not-frags_fit
returns-then-not-frags_fit c =
    let a = c.args in
    let q = rw (c.counts_at-c.ensures, c.read_totals-t.ensures) at (sym c.frags_fit.ensures ∙ c.if-not-frags_fit.true) in
    sym (fits_not a.geo a.g a.f a.n a.img.now c.if-n-geo.false q)

pub returns-then-whole_then : goal.returns-then-whole_then
returns-then-whole_then c =
    let a = c.args in
    let q = rw (c.counts_at-c.ensures, c.read_totals-t.ensures) at (sym c.frags_fit.ensures ∙ c.if-not-frags_fit.false) in
    let z = sym c.whole_then.ensures ∙ c.if-whole_then.true in
    rw (c.loose_fit.ensures, c.block_fits-then-whole_then.ensures, c.counts_at-c.ensures, c.read_totals-t.ensures) (sym (fits_whole a.geo a.g a.f a.n a.img.now c.if-n-geo.false q z))

pub returns-else-whole_then : goal.returns-else-whole_then
returns-else-whole_then c =
    let a = c.args in
    let q = rw (c.counts_at-c.ensures, c.read_totals-t.ensures) at (sym c.frags_fit.ensures ∙ c.if-not-frags_fit.false) in
    sym (fits-part a.geo a.g a.f a.n a.img.now c.if-n-geo.false q (sym c.whole_then.ensures ∙ c.if-whole_then.false))
