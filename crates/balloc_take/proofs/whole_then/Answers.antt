-- `whole_then` meets its contract: the block's bits in the one byte that the run changes, `whole-byte`. Assumes nothing.
use Rattle.std.proofs.Common.{refl, ◌∙◌, arith, rules}
use Rattle.balloc_take.proofs.TakeLaws.{map-value}
use Rattle.balloc_take.proofs.TestLaws.{first-bit-in, whole-byte}
use native.Mathlib.Nat.{mod-le}
use Rattle.balloc_take.proofs.whole_then.Goals as goal

pub overflow_sub-s : goal.overflow_sub-s
overflow_sub-s c = mod-le _ _

pub all_free-requires : goal.all_free-requires
all_free-requires c = (omega arith, first-bit-in c.requires)

pub returns : goal.returns
returns c =
    let a = c.args in
    c.all_free.ensures ∙ whole-byte c.requires _ (map-value a.geo a.g a.f a.n a.img.now c.map_at-at.ensures.0 refl c.put_bits-byte.ensures)
