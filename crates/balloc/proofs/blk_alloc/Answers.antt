-- `blk_alloc` meets its contract: the cut call with a number above all its stores. Assumes nothing.
use borrow.Author.Rules.{rules}
use mathlib.Core.Path.{◌∙◌}
use native.Mathlib.Omega.{arith}
use Rattle.balloc.proofs.CallLaws.{alloc_plain_lem, alloc_most}
use Rattle.balloc.proofs.blk_alloc.Goals as goal

pub returns : goal.returns
returns c =
    let s = c.args in
    c.blk_alloc_cut.ensures ∙ alloc_plain_lem s.vol s.size 18446744073709551615 s.img.now (omega (arith, alloc_most s.vol s.size s.img.now))
