-- `blocks_in_byte` meets its contract: a byte of 0 has no free block, and each block of a byte of 255 is free. Assumes nothing.
use mathlib.Core.Bool.{true, false}
use mathlib.Core.Path.{refl}
use native.Mathlib.Omega.{arith}
use Rattle.bits.proofs.UptoLaws.{as_bit-true, as_bit-false}
use Rattle.bits.proofs.CountLaws.{empty-byte, filled-byte, blocks-const}
use Rattle.bits_count.proofs.blocks_in_byte.Goals as goal

pub returns-then-x-eq0 : goal.returns-then-x-eq0
returns-then-x-eq0 c =
    let a = c.args in
    omega (
      arith,
      blocks-const a.frag a.img.now a.at false 0 a.from a.to (as_bit-false refl) c.requires.ordered
          (λ h l u. empty-byte c.requires a.img.now h l u c.if-x-eq0.true),
    )

pub returns-then-x : goal.returns-then-x
returns-then-x c =
    let a = c.args in
    omega (
      arith,
      blocks-const a.frag a.img.now a.at true 1 a.from a.to (as_bit-true refl) c.requires.ordered
          (λ h l u. filled-byte c.requires a.img.now h l u c.if-x.true),
    )
