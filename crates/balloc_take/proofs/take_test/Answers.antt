-- `take_test` meets its contract: each test that is left says what the next one's code asks for. Assumes nothing.
use Rattle.std.proofs.Common.{◌≡◌, ◌/◌, true, sym, ap, ◌∙◌, rules}
use Rattle.frame.specs.Frame.{run_okb}
use Rattle.frame.proofs.Places.{run_is}
use Rattle.balloc_take.specs.Take.{good_size, in_block}
use Rattle.balloc_take.proofs.TestLaws.{frame-frag, size_top, test-size, test-block, test-place, test-run, back-run, run_as}
use Rattle.balloc_take.proofs.take_test.Goals as goal

pub returns-then-not-good_size : goal.returns-then-not-good_size
returns-then-not-good_size c =
    let a = c.args in
    sym (test-size a.geo a.a.0 a.size a.img.now (sym c.good_size.ensures ∙ c.if-not-good_size.true))

pub numfrags-n-requires : goal.numfrags-n-requires
numfrags-n-requires c = (search rules, size_top _ _ (sym c.good_size.ensures ∙ c.if-not-good_size.false))

pub in_block-requires : goal.in_block-requires
in_block-requires c = frame-frag c.requires

pub returns-then-not-in_block : goal.returns-then-not-in_block
returns-then-not-in_block c =
    let a = c.args in
    sym (test-block a.geo a.a.0 a.size a.img.now (sym c.good_size.ensures ∙ c.if-not-good_size.false)
    (ap (in_block a.geo a.a.0) (sym c.numfrags-n.ensures) ∙ sym c.in_block.ensures ∙ c.if-not-in_block.true))

-- the tests that are passed, one by one: the size, the block, the place
pub returns-then-not-run_ok : goal.returns-then-not-run_ok
returns-then-not-run_ok c =
    let a = c.args in
    let sized : good_size a.geo a.size ≡ true = sym c.good_size.ensures ∙ c.if-not-good_size.false in
    let blocked : in_block a.geo a.a.0 (a.size / a.geo.fsize) ≡ true = ap (in_block a.geo a.a.0) (sym c.numfrags-n.ensures) ∙ sym c.in_block.ensures ∙ c.if-not-in_block.false in
    sym (test-place a.geo a.a.0 a.size a.img.now sized blocked
    (ap (run_okb a.geo a.img.now a.a.0) (sym c.numfrags-n.ensures) ∙ sym c.run_ok.ensures ∙ c.if-not-run_ok.true))

pub dtog-requires : goal.dtog-requires
dtog-requires c =
    let a = c.args in
    let placed : run_okb a.geo a.img.now a.a.0 (a.size / a.geo.fsize) ≡ true = ap (run_okb a.geo a.img.now a.a.0) (sym c.numfrags-n.ensures) ∙ sym c.run_ok.ensures ∙ c.if-not-run_ok.false in
    (search rules, (run_is _ _ _ _ placed).group)

pub run_test-requires : goal.run_test-requires
run_test-requires c =
    let a = c.args in
    let sized : good_size a.geo a.size ≡ true = sym c.good_size.ensures ∙ c.if-not-good_size.false in
    let blocked : in_block a.geo a.a.0 (a.size / a.geo.fsize) ≡ true = ap (in_block a.geo a.a.0) (sym c.numfrags-n.ensures) ∙ sym c.in_block.ensures ∙ c.if-not-in_block.false in
    let placed : run_okb a.geo a.img.now a.a.0 (a.size / a.geo.fsize) ≡ true = ap (run_okb a.geo a.img.now a.a.0) (sym c.numfrags-n.ensures) ∙ sym c.run_ok.ensures ∙ c.if-not-run_ok.false in
    run_as (back-run a.geo a.a.0 a.size a.img.now sized blocked c.requires (run_is _ _ _ _ placed))
    c.dtog.ensures c.dtogd.ensures c.numfrags-n.ensures

pub returns : goal.returns
returns c =
    let a = c.args in
    let sized : good_size a.geo a.size ≡ true = sym c.good_size.ensures ∙ c.if-not-good_size.false in
    let blocked : in_block a.geo a.a.0 (a.size / a.geo.fsize) ≡ true = ap (in_block a.geo a.a.0) (sym c.numfrags-n.ensures) ∙ sym c.in_block.ensures ∙ c.if-not-in_block.false in
    let placed : run_okb a.geo a.img.now a.a.0 (a.size / a.geo.fsize) ≡ true = ap (run_okb a.geo a.img.now a.a.0) (sym c.numfrags-n.ensures) ∙ sym c.run_ok.ensures ∙ c.if-not-run_ok.false in
    c.run_test.ensures
    ∙ rw (c.dtog.ensures, c.dtogd.ensures, c.numfrags-n.ensures)
    (sym (test-run a.geo a.a.0 a.size a.img.now sized blocked placed))
