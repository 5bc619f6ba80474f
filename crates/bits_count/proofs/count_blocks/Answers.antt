-- `count_blocks` meets its contract: the total is that of the bytes passed. Assumes nothing.
use mathlib.Core.Path.{◌≡◌, sym}
use native.Mathlib.Nat.{mul-zero}
use native.Mathlib.Omega.{arith}
use Rattle.bits.proofs.BitsLaws.{block-ends}
use Rattle.bits.proofs.CountLaws.{walk-byte, walk-on, blocks-none, blocks-le}
use Rattle.bits_count.proofs.count_blocks.Goals as goal

pub loop-h-init : goal.loop-h-init
loop-h-init c = (omega arith, λ l. mul-zero _, sym (blocks-none _ _ _))

pub blocks_in_byte-total-requires : goal.blocks_in_byte-total-requires
blocks_in_byte-total-requires c =
    walk-byte c.args.frag c.loop-h.i c.loop-h.h c.per_byte-per.result _ c.args.nb c.requires.0 c.per_byte-per.ensures.0 (c.loop-h.invariant.1 (omega arith)) c.min-to.ensures c.args.at _ (omega arith) c.requires.1

pub overflow_add-total : goal.overflow_add-total
overflow_add-total c = let a = c.args in omega (arith, c.blocks_in_byte-total.ensures, blocks-le a.frag a.img.now a.at c.min-to.result)

pub overflow_add-i : goal.overflow_add-i
overflow_add-i c = omega (arith, c.loop-h.invariant.1 (omega arith), block-ends c.args.frag c.loop-h.h c.args.nb (omega arith))

pub loop-h-preserved : goal.loop-h-preserved
loop-h-preserved c = (
  omega arith,
  λ u. walk-on c.args.frag c.loop-h.i c.loop-h.h c.per_byte-per.result _ c.args.nb c.requires.0 c.per_byte-per.ensures.0 (c.loop-h.invariant.1 (omega arith)) c.min-to.ensures u,
  omega (arith, c.blocks_in_byte-total.ensures),
)

pub returns : goal.returns
returns c = let e : c.loop-h.h ≡ c.args.nb = omega arith in cc
