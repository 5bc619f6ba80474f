-- `frags_in_byte` meets its contract: the ones of the byte's low bits. Assumes nothing.
use native.Mathlib.Nat.{mod-lt}
use native.Mathlib.Omega.{arith}
use Prim.Native.Nat.{◌%◌}
use lib.Count.{ones-le}
use Rattle.bits.proofs.CountLaws.{frags-byte}
use Rattle.bits_count.proofs.frags_in_byte.Goals as goal

pub overflow_cast-result : goal.overflow_cast-result
overflow_cast-result c =
    let x = c.wide.result in
    let p = c.two_to.result in
    omega (arith, ones-le 8 (x % p) (omega (arith, mod-lt x {m = p} (omega arith))))

pub returns : goal.returns
returns c = rw (c.two_to.ensures.0, c.wide.ensures) (frags-byte c.args.img.now c.args.at c.args.i c.args.m c.requires.1)
