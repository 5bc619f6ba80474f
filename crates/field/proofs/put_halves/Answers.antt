-- `put_halves` meets its contract. Assumes nothing.
use native.Mathlib.Omega.{arith}
use Rattle.field.proofs.Laws.{put_num_little, put_num_big}
use Rattle.field.proofs.put_halves.Goals as goal

pub returns-in-Little : goal.returns-in-Little
returns-in-Little g c =
    let n = g.T.Number.BYTES in
    λ v l h. rw (put_num_little c.in-Little.is n n) (rw (← l, ← h) (rw (← c.in-Little.is) (rw (c.put.ensures, c.BYTES.ensures) at c.put-in-Little.ensures)))

pub returns-in-Big : goal.returns-in-Big
returns-in-Big g c =
    let n = g.T.Number.BYTES in
    λ v l h. rw (put_num_big c.in-Big.is n n) (rw (← l, ← h) (rw (← c.in-Big.is) (rw (c.put-in-Big.ensures, c.BYTES-in-Big.ensures) at c.put-in-Big-2.ensures)))
