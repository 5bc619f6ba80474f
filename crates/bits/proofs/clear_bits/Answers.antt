-- `clear_bits` meets its contract: the run is parted by `bits-bytes`, or stands within one byte. Assumes nothing.
use mathlib.Core.Path.{◌∙◌, sym}
use Prim.Native.Nat.{◌+◌, ◌/◌}
use native.Mathlib.Omega.{arith}
use Rattle.bits.proofs.BitsLaws.{bits-bytes}
use Rattle.bits.proofs.clear_bits.Goals as goal

pub returns-then-not-run_clear : goal.returns-then-not-run_clear
returns-then-not-run_clear c =
    let a = c.args in
    rw (
      bits-bytes 0 a.img.now a.at a.from a.n ((a.from + 7) / 8) ((a.from + a.n) / 8) (omega arith) (omega arith) (omega arith),
      sym c.run_clear-2.ensures ∙ c.if-not-run_clear.true,
    )

pub returns-then-not-bytes_clear : goal.returns-then-not-bytes_clear
returns-then-not-bytes_clear c =
    let a = c.args in
    rw (
      bits-bytes 0 a.img.now a.at a.from a.n ((a.from + 7) / 8) ((a.from + a.n) / 8) (omega arith) (omega arith) (omega arith),
      sym c.run_clear-2.ensures ∙ c.if-not-run_clear.false,
      sym c.bytes_clear.ensures ∙ c.if-not-bytes_clear.true,
    )

pub returns : goal.returns
returns c =
    let a = c.args in
    rw (
      bits-bytes 0 a.img.now a.at a.from a.n ((a.from + 7) / 8) ((a.from + a.n) / 8) (omega arith) (omega arith) (omega arith),
      sym c.run_clear-2.ensures ∙ c.if-not-run_clear.false,
      sym c.bytes_clear.ensures ∙ c.if-not-bytes_clear.false,
      ← c.run_clear-3.ensures,
    )
