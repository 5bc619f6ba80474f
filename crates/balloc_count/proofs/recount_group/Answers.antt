-- `recount_group` meets its contract: the two counts that it stores are its store. Assumes nothing.
use borrow.Author.Rules.{rules}
use native.Mathlib.Omega.{arith}
use Rattle.balloc_count.proofs.FreshLaws.{blocks-small, loose-small}
use Rattle.balloc_count.proofs.RecountLaws.{apply-group}
use Rattle.balloc_count.proofs.recount_group.Goals as goal

pub overflow_cast-fresh : goal.overflow_cast-fresh
overflow_cast-fresh c =
    omega (arith, c.count_group-fresh.ensures.0, blocks-small _ _ c.requires.0 _ c.requires.1)

pub overflow_cast-fresh-2 : goal.overflow_cast-fresh-2
overflow_cast-fresh-2 c =
    omega (arith, c.count_group-fresh.ensures.1, loose-small _ _ c.requires.0 _ c.requires.1)

pub returns : goal.returns
returns c =
    let s = c.args in
    let f = c.count_group-fresh.ensures in
    (cc (apply-group s.geo s.img.now s.g s.img.now), f.0, f.1)
