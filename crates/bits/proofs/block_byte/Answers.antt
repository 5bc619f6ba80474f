-- `block_byte` meets its contract: each arm changes the byte and the bits that `arm-byte` and `arm-bit` say. Assumes nothing.
use native.Mathlib.Omega.{arith}
use Prim.Native.Nat.{◌*◌, ◌/◌, ◌%◌}
use Rattle.bits.proofs.BitsLaws.{arm-byte, arm-put, last_arm}
use mathlib.Core.Path.{◌∙◌}
use Rattle.bits.proofs.block_byte.Goals as goal

pub overflow_add-at : goal.overflow_add-at
overflow_add-at c = omega (arith, arm-byte c.args.h 8 c.in-8.is c.requires.0)

pub bounds-img-at : goal.bounds-img-at
bounds-img-at c = omega (arith, arm-byte c.args.h 8 c.in-8.is c.requires.0)

pub bounds-img-at-in-4 : goal.bounds-img-at-in-4
bounds-img-at-in-4 c = omega (arith, arm-byte c.args.h 4 c.in-4.is c.requires.0)

pub bounds-img-at-in-2 : goal.bounds-img-at-in-2
bounds-img-at-in-2 c = omega (arith, arm-byte c.args.h 2 c.in-2.is c.requires.0)

pub bounds-img-at-in_default : goal.bounds-img-at-in_default
bounds-img-at-in_default c = omega (arith, arm-byte c.args.h 1 (last_arm c.in_default.in_default-own.rest c.requires.0) c.requires.0)

pub returns-in-8 : goal.returns-in-8
returns-in-8 c =
    let a = c.args in
    c.put_bits.ensures ∙ arm-put _ a.img.now a.at a.h 8 a.h 0 c.in-8.is c.requires.0 (omega arith) (omega arith)

pub returns-in-4 : goal.returns-in-4
returns-in-4 c =
    let a = c.args in
    c.put_bits-in-4.ensures ∙ arm-put _ a.img.now a.at a.h 4 (a.h / 2) (a.h % 2 * 4) c.in-4.is c.requires.0 (omega arith) (omega arith)

pub returns-in-2 : goal.returns-in-2
returns-in-2 c =
    let a = c.args in
    c.put_bits-in-2.ensures ∙ arm-put _ a.img.now a.at a.h 2 (a.h / 4) (a.h % 4 * 2) c.in-2.is c.requires.0 (omega arith) (omega arith)

pub returns-in_default : goal.returns-in_default
returns-in_default c =
    let a = c.args in
    c.put_bits-in_default.ensures ∙ arm-put _ a.img.now a.at a.h 1 (a.h / 8) (a.h % 8) (last_arm c.in_default.in_default-own.rest c.requires.0) c.requires.0 (omega arith) (omega arith)
