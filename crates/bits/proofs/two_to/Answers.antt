-- `two_to` meets its contract: a power of at most 8 does not wrap. Assumes nothing.
use native.Mathlib.Omega.{arith}
use lib.Pow.{pow_mono, pow_pos}
use Rattle.bits.proofs.two_to.Goals as goal

pub returns : goal.returns
returns c = omega (arith, pow_mono c.requires, pow_pos c.args.n)
