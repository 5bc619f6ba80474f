-- `joined` meets its contract. Assumes nothing.
use native.Mathlib.Omega.{arith}
use Rattle.field.proofs.Laws.{num_little, num_big}
use Rattle.field.proofs.joined.Goals as goal

pub returns-in-Little : goal.returns-in-Little
returns-in-Little g c =
    let s = c.args in
    let n = g.T.Number.BYTES in (
      c.get-low.result,
      c.get-high.result,
      c.join.ensures,
      rw (num_little c.in-Little.is n n s.at s.img.now (omega (arith, c.requires.room))) (rw (c.get-low.ensures, rw c.BYTES.ensures at c.get-high.ensures)),
    )

pub returns : goal.returns
returns g c =
    let s = c.args in
    let n = g.T.Number.BYTES in (
      c.get-low-in-Big.result,
      c.get-high-in-Big.result,
      c.join-in-Big.ensures,
      rw (num_big c.in-Big.is n n s.at s.img.now (omega (arith, c.requires.room))) (rw (c.get-high-in-Big.ensures, rw c.BYTES-in-Big.ensures at c.get-low-in-Big.ensures)),
    )
