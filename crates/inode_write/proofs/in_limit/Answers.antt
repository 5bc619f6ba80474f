-- `in_limit` meets its contract. Assumes nothing.
use native.Mathlib.Omega.{arith}
use Prim.Native.Nat.{◌+◌}
use Rattle.inode_write.proofs.CallLaws.{limit_is, limit-fits, past-limit, at-limit}
use Rattle.inode_write.proofs.in_limit.Goals as goal

pub overflow_mul-limit : goal.overflow_mul-limit
overflow_mul-limit c =
    let l = limit-fits c.args.geo (12 + c.span_of.result + c.span_of-2.result + c.span_of-3.result) (omega (arith, c.span_of.ensures.0, c.span_of-2.ensures.0, c.span_of-3.ensures.0)) (omega (arith, c.span_of.ensures.1, c.span_of-2.ensures.1, c.span_of-3.ensures.1)) c.requires in
    omega (arith, l)

pub returns-then-limit-n : goal.returns-then-limit-n
returns-then-limit-n c = past-limit _ _ _ _ (limit_is c.args.geo (12 + c.span_of.result + c.span_of-2.result + c.span_of-3.result) (omega (arith, c.span_of.ensures.0, c.span_of-2.ensures.0, c.span_of-3.ensures.0))) c.if-limit-n.true

pub returns : goal.returns
returns c = at-limit _ _ _ _ (limit_is c.args.geo (12 + c.span_of.result + c.span_of-2.result + c.span_of-3.result) (omega (arith, c.span_of.ensures.0, c.span_of-2.ensures.0, c.span_of-3.ensures.0))) (omega (arith, c.if-limit-n.false))
