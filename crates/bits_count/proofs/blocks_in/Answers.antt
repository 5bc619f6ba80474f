-- `blocks_in` meets its contract: n is the number of free blocks passed. Assumes nothing.
use borrow.Author.Rules.{rules}
use mathlib.Core.Path.{◌≡◌, ap, ◌∙◌}
use native.Mathlib.Nat.{add-zero}
use native.Mathlib.Omega.{arith}
use Rattle.bits.specs.Upto.{as_bit}
use Rattle.bits.proofs.CountLaws.{block-place, blocks_more}
use Rattle.bits_count.proofs.blocks_in.Goals as goal

pub loop-h-init : goal.loop-h-init
loop-h-init c = (search rules, add-zero _)

pub isfreeblock-requires : goal.isfreeblock-requires
isfreeblock-requires c =
    (c.requires.0, block-place c.args.frag c.args.at c.loop-h.h c.args.to _ c.requires.0 (omega arith) c.requires.1)

pub loop-h-preserved : goal.loop-h-preserved
loop-h-preserved c =
    let a = c.args in
    (omega arith, omega (arith, blocks_more a.frag a.img.now a.at c.loop-h.h, c.as_bit-n.ensures.0 ∙ ap as_bit c.isfreeblock.ensures))

pub returns : goal.returns
returns c = let e : c.loop-h.h ≡ c.args.to = omega arith in cc
