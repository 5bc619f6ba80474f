-- `put_bits` meets its contract: the sum that it makes is `put_bits`, which is a byte. Assumes nothing.
use native.Mathlib.Nat.{div-mul-le_self}
use native.Mathlib.Omega.{arith}
use Rattle.bits.proofs.ByteLaws.{put-sum, put-sum-lt, run-room}
use Rattle.bits.proofs.put_bits.Goals as goal

pub overflow_mul-result : goal.overflow_mul-result
overflow_mul-result c = omega (arith, div-mul-le_self c.args.x c.two_to-above.result)

pub overflow_mul-result-2 : goal.overflow_mul-result-2
overflow_mul-result-2 c = omega (arith, run-room 1 c.two_to.result c.two_to-below.result (omega arith) (omega arith) (omega arith))

pub overflow_mul-result-3 : goal.overflow_mul-result-3
overflow_mul-result-3 c = omega (arith, run-room c.as_bit-v.result c.two_to.result c.two_to-below.result (omega arith) (omega arith) (omega arith))

pub overflow_add-result : goal.overflow_add-result
overflow_add-result c = omega (arith, put-sum-lt c.args.n c.args.s c.args.x c.as_bit-v.ensures.0 c.two_to-above.ensures.0 c.two_to-below.ensures.0 c.two_to.ensures.0 c.as_bit-v.ensures.1 c.requires c.ranges.x.fits)

pub overflow_add-result-2 : goal.overflow_add-result-2
overflow_add-result-2 c = omega (arith, put-sum-lt c.args.n c.args.s c.args.x c.as_bit-v.ensures.0 c.two_to-above.ensures.0 c.two_to-below.ensures.0 c.two_to.ensures.0 c.as_bit-v.ensures.1 c.requires c.ranges.x.fits)

pub overflow_cast-result : goal.overflow_cast-result
overflow_cast-result c =
    record {
      fits = put-sum-lt c.args.n c.args.s c.args.x c.as_bit-v.ensures.0 c.two_to-above.ensures.0 c.two_to-below.ensures.0 c.two_to.ensures.0
          c.as_bit-v.ensures.1 c.requires c.ranges.x.fits;
    }

pub returns : goal.returns
returns c =
    put-sum _ _ _ c.as_bit-v.ensures.0 c.two_to-above.ensures.0 c.two_to-below.ensures.0 c.two_to.ensures.0
