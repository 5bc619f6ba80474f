-- `first_in_byte` meets its contract: a byte of 0 has no free block. Assumes nothing.
use mathlib.Core.Path.{sym}
use native.Mathlib.Omega.{arith}
use Rattle.bits.proofs.UptoLaws.{first_fails}
use Rattle.bits.proofs.CountLaws.{empty-byte}
use Rattle.bits_find.proofs.first_in_byte.Goals as goal

pub returns-then-img-at-eq0 : goal.returns-then-img-at-eq0
returns-then-img-at-eq0 c =
    sym (first_fails _ _ _ (λ j l u. empty-byte c.requires c.args.img.now j l (omega arith) c.if-img-at-eq0.true))
