-- `recount_all` meets its contract: the groups passed have their counts, and the sums are theirs. Assumes nothing.
use borrow.Author.Rules.{rules}
use native.Mathlib.Omega.{arith}
use Rattle.balloc_count.proofs.RecountLaws.{passed-none, passed-frame, passed-long, passed-more, passed-fits, passed-all}
use Rattle.balloc_count.proofs.recount_all.Goals as goal

pub loop-g-init : goal.loop-g-init
loop-g-init c = passed-none _ _

pub recount_group-fresh-requires : goal.recount_group-fresh-requires
recount_group-fresh-requires c = (passed-frame c.requires c.loop-g.invariant, omega arith)

pub overflow_add-nbfree : goal.overflow_add-nbfree
overflow_add-nbfree c =
    let e = c.recount_group-fresh.ensures in
    omega (arith, (passed-fits c.requires c.loop-g.invariant (omega arith) e.1 e.2).0)

pub overflow_add-nffree : goal.overflow_add-nffree
overflow_add-nffree c =
    let e = c.recount_group-fresh.ensures in
    omega (arith, (passed-fits c.requires c.loop-g.invariant (omega arith) e.1 e.2).1)

pub loop-g-preserved : goal.loop-g-preserved
loop-g-preserved c =
    let e = c.recount_group-fresh.ensures in
    passed-more c.requires c.loop-g.invariant (omega arith) e.0 e.1 e.2

pub put_total-requires : goal.put_total-requires
put_total-requires c = (passed-frame c.requires c.loop-g.invariant).laid.low

pub put_total-requires-2 : goal.put_total-requires-2
put_total-requires-2 c =
    let w = (passed-frame c.requires c.loop-g.invariant).laid.low in
    search rules

pub shape_of-img : goal.shape_of-img
shape_of-img c =
    let w = passed-long c.requires c.loop-g.invariant in
    search rules

pub returns : goal.returns
returns c = cc (passed-all c.requires c.loop-g.invariant (omega arith))
