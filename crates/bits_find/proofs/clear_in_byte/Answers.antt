-- `clear_in_byte` meets its contract: a byte of 255 has no clear bit. Assumes nothing.
use mathlib.Core.Path.{◌≡◌, sym, ap, ◌∙◌}
use Prim.Native.Nat.{ℕ, ◌+◌, ◌/◌}
use native.Mathlib.Omega.{arith}
use lib.ListN.{get_or}
use Rattle.bits.proofs.UptoLaws.{first_fails}
use Rattle.bits.proofs.BitsLaws.{clear_filled}
use Rattle.bits_find.proofs.clear_in_byte.Goals as goal

pub returns-then-img-at : goal.returns-then-img-at
returns-then-img-at c =
    let a = c.args in
    sym (first_fails _ _ _ (λ j l u.
    let e : j / 8 ≡ a.from / 8 = omega arith in
    clear_filled a.img.now a.at j (ap (λ (i : ℕ). get_or a.img.now (a.at + i) 0) e ∙ c.if-img-at.true)))
