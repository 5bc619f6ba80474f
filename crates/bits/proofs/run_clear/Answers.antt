-- `run_clear` meets its contract: a run within one byte is one test, `bits-byte`. Assumes nothing.
use mathlib.Core.Path.{sym}
use native.Mathlib.Nat.{zero-mul}
use native.Mathlib.Omega.{arith}
use Rattle.bits.proofs.BitsLaws.{bits_none, bits-byte}
use Rattle.bits.proofs.run_clear.Goals as goal

pub returns-then-n-eq0 : goal.returns-then-n-eq0
returns-then-n-eq0 c = let a = c.args in cc (bits_none 0 a.img.now a.at a.f)

pub returns : goal.returns
returns c =
    let a = c.args in
    rw (c.two_to.ensures.0, c.wide.ensures) (sym (rw zero-mul at (bits-byte 0 a.img.now a.at a.f a.n (omega arith) c.requires.0)))
