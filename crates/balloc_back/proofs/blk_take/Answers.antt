-- `blk_take` meets its contract: a test that is passed gives the run, and each arm's stores are those of `take_back`. Assumes nothing.
use Rattle.std.proofs.Common.{sym, ◌∙◌, rules}
use Rattle.refusal.proofs.ExitLaws.{passed}
use Rattle.balloc_take.proofs.TestLaws.{size_top, test_good, good-run, run_as}
use Rattle.balloc_take.proofs.TakeLaws.{stores-block, stores-frags, leaves-zero, leaves-bad, leaves-good}
use Rattle.balloc_back.proofs.blk_take.Goals as goal

pub returns-then-a-eq0 : goal.returns-then-a-eq0
returns-then-a-eq0 c = let a = c.args in leaves-zero a.geo a.a.0 a.size a.img.now a.k c.if-a-eq0.true

pub dtog-g-requires : goal.dtog-g-requires
dtog-g-requires c = (search rules, (test_good _ _ _ _ (sym c.in_ok-take_test.ensures)).place.group)

pub numfrags-n-requires : goal.numfrags-n-requires
numfrags-n-requires c = (search rules, size_top _ _ (test_good _ _ _ _ (sym c.in_ok-take_test.ensures)).size_good)

pub store_block-requires : goal.store_block-requires
store_block-requires c =
    run_as (good-run _ _ _ _ (sym c.in_ok-take_test.ensures) c.requires) c.dtog-g.ensures c.dtogd-f.ensures (sym c.if-n-geo.true ∙ c.numfrags-n.ensures)

pub store_frags-requires : goal.store_frags-requires
store_frags-requires c =
    run_as (good-run _ _ _ _ (sym c.in_ok-take_test.ensures) c.requires) c.dtog-g.ensures c.dtogd-f.ensures c.numfrags-n.ensures

pub returns-then-n-geo : goal.returns-then-n-geo
returns-then-n-geo c =
    let a = c.args in
    leaves-good a.geo a.a.0 a.size a.img.now a.k c.if-a-eq0.false (sym c.in_ok-take_test.ensures)
    (stores-block a.geo a.a.0 a.size a.img.now c.dtog-g.ensures c.dtogd-f.ensures (sym c.numfrags-n.ensures ∙ c.if-n-geo.true))
    c.store_block.ensures.0 c.store_block.ensures.1

pub returns-else-n-geo : goal.returns-else-n-geo
returns-else-n-geo c =
    let a = c.args in
    leaves-good a.geo a.a.0 a.size a.img.now a.k c.if-a-eq0.false (sym c.in_ok-take_test.ensures)
    (stores-frags a.geo a.a.0 a.size a.img.now c.dtog-g.ensures c.dtogd-f.ensures c.numfrags-n.ensures c.if-n-geo.false)
    c.store_frags.ensures.0 c.store_frags.ensures.1

pub returns-in_err-take_test : goal.returns-in_err-take_test
returns-in_err-take_test c =
    let a = c.args in
    rw (passed _ _ c.from_residual.ensures) (leaves-bad a.geo a.a.0 a.size a.img.now a.k c.if-a-eq0.false (sym c.in_err-take_test.ensures))
