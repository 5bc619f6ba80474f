-- `blk_free` meets its contract: the cut call with a number above all its stores. Assumes nothing.
use borrow.Author.Rules.{rules}
use mathlib.Core.Path.{◌∙◌}
use native.Mathlib.Omega.{arith}
use Rattle.balloc.proofs.CallLaws.{free-plain, free-most}
use Rattle.balloc.proofs.blk_free.Goals as goal

pub returns : goal.returns
returns c =
    let s = c.args in
    c.blk_free_cut.ensures
    ∙ free-plain s.vol s.a.0 s.size 18446744073709551615 s.img.now (omega (arith, free-most s.vol s.a.0 s.size s.img.now))
