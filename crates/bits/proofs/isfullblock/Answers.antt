-- `isfullblock` meets its contract: each arm reads the byte and the bits that `arm-byte` and `arm-bit` say. Assumes nothing.
use mathlib.Core.Path.{◌∙◌, sym, ap}
use Prim.Native.Nat.{ℕ, ◌+◌, ◌*◌}
use native.Mathlib.Omega.{arith}
use Rattle.bits.specs.Bits.{bits_are}
use Rattle.bits.proofs.BitsLaws.{arm-byte, arm-test, byte-bits, last_arm, full-bits}
use Rattle.bits.proofs.isfullblock.Goals as goal

pub overflow_add-result : goal.overflow_add-result
overflow_add-result c = omega (arith, arm-byte c.args.h 8 c.in-8.is c.requires.0)

pub bounds-img-at : goal.bounds-img-at
bounds-img-at c = omega (arith, arm-byte c.args.h 8 c.in-8.is c.requires.0)

pub bounds-img-at-in-4 : goal.bounds-img-at-in-4
bounds-img-at-in-4 c = omega (arith, arm-byte c.args.h 4 c.in-4.is c.requires.0)

pub bounds-img-at-in-2 : goal.bounds-img-at-in-2
bounds-img-at-in-2 c = omega (arith, arm-byte c.args.h 2 c.in-2.is c.requires.0)

pub bounds-img-at-in_default : goal.bounds-img-at-in_default
bounds-img-at-in_default c = omega (arith, arm-byte c.args.h 1 (last_arm c.in_default.in_default-own.rest c.requires.0) c.requires.0)

pub returns-in-8 : goal.returns-in-8
returns-in-8 c =
    let a = c.args in
    sym (byte-bits 0 a.img.now a.at a.h (omega arith) (c.shared_slice_known-1.given (a.at + a.h)).fits)
    ∙ ap (λ (k : ℕ). bits_are 0 a.img.now a.at (k * a.h) k) (sym c.in-8.is) ∙ sym (full-bits _ _ _ _)

pub returns-in-4 : goal.returns-in-4
returns-in-4 c =
    arm-test 0 _ _ c.args.h 4 _ _ c.in-4.is c.requires.0 (omega arith) (omega arith) (omega arith) ∙ sym (full-bits _ _ _ _)

pub returns-in-2 : goal.returns-in-2
returns-in-2 c =
    arm-test 0 _ _ c.args.h 2 _ _ c.in-2.is c.requires.0 (omega arith) (omega arith) (omega arith) ∙ sym (full-bits _ _ _ _)

pub returns-in_default : goal.returns-in_default
returns-in_default c =
    arm-test 0 _ _ c.args.h 1 _ _ (last_arm c.in_default.in_default-own.rest c.requires.0) c.requires.0 (omega arith) (omega arith) (omega arith) ∙ sym (full-bits _ _ _ _)
