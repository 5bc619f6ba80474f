-- `dtogd` meets its contract: a rest by a 32-bit number fits 32 bits. Assumes nothing.
use Rattle.std.proofs.Common.{mod-lt, arith, rules}
use Rattle.balloc_take.proofs.dtogd.Goals as goal

pub overflow_cast-result-2 : goal.overflow_cast-result-2
overflow_cast-result-2 c = omega (arith, mod-lt c.args.a.0 c.requires)
