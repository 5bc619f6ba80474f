-- `numfrags` meets its contract: a part of at most bsize fits 32 bits. Assumes nothing.
use Rattle.std.proofs.Common.{div-le_self, arith, rules}
use Rattle.balloc_take.proofs.numfrags.Goals as goal

pub overflow_cast-result-2 : goal.overflow_cast-result-2
overflow_cast-result-2 c = omega (arith, div-le_self c.args.size c.args.geo.fsize)
