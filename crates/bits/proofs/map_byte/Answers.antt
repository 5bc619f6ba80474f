-- `map_byte` meets its contract: each arm divides by its number of blocks of a byte. Assumes nothing.
use native.Mathlib.Omega.{arith}
use Rattle.bits.proofs.BitsLaws.{arm-byte, last_arm}
use Rattle.bits.proofs.map_byte.Goals as goal

pub returns-in-8 : goal.returns-in-8
returns-in-8 c = omega (arith, arm-byte c.args.h 8 c.in-8.is c.requires)

pub returns-in-4 : goal.returns-in-4
returns-in-4 c = omega (arith, arm-byte c.args.h 4 c.in-4.is c.requires)

pub returns-in-2 : goal.returns-in-2
returns-in-2 c = omega (arith, arm-byte c.args.h 2 c.in-2.is c.requires)

pub returns-in_default : goal.returns-in_default
returns-in_default c = omega (arith, arm-byte c.args.h 1 (last_arm c.in_default.in_default-own.rest c.requires) c.requires)
