-- `block_at` meets its contract: a block of 512 bytes lies in one block of the file. Assumes nothing.
use borrow.Author.Rules.{rules}
use native.Mathlib.Omega.{arith}
use mathlib.Core.Path.{◌∙◌}
use Prim.Native.Nat.{◌+◌, ◌*◌, ◌/◌, ◌%◌}
use Rattle.inode_read.proofs.ReachLaws.{block-some, run-reaches}
use Rattle.dirfile.proofs.BlockLaws.{block-is, in_one}
use Rattle.dirfile.proofs.block_at.Goals as goal

pub nonzero_div-off : goal.nonzero_div-off
nonzero_div-off c = block-some _ c.requires.0.sizes

pub nonzero_rem-off : goal.nonzero_rem-off
nonzero_rem-off c = block-some _ c.requires.0.sizes

pub place_in-requires : goal.place_in-requires
place_in-requires c =
    let s = c.args in
    let p = c.requires in
    let q = in_one s.geo p.0.sizes s.k in
    (run-reaches s.geo s.img.now p.0 s.at s.size (s.k * 512 / s.geo.bsize) (s.k * 512 % s.geo.bsize + 512) (omega arith) q.0 (omega (arith, q.1, p.2)) c.run_of-r.result c.run_of-r.ensures, p.0.laid.high)

pub returns : goal.returns
returns c = (block-is _ _ _ _ _ _ c.run_of-r.ensures ∙ c.place_in.ensures.0, c.place_in.ensures.1)
