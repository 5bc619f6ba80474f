-- `field::zero_bytes` meets its contract. Assumes nothing.
use borrow.Author.Rules.{rules}
use native.Mathlib.Omega.{arith}
use Prim.Native.Nat.{◌+◌, ◌-◌, ℕ}
use mathlib.Core.Path.{◌≡◌, ap, ◌∙◌}
use lib.ListN.{length, replicate}
use borrow.Rule.Slice.PartMut.{put_mid}
use Rattle.field.specs.Field.{part, zeros}
use Rattle.field.proofs.Laws.{put-middle, length-part, length-zeros}
use Rattle.field.proofs.zero_bytes.Goals as goal

pub returns : goal.returns
unfolding part zeros
returns c =
    let s = c.args in
    let run : s.at + s.n - s.at ≡ s.n = omega arith in
    let long : length (part (s.at + s.n - s.at) s.at s.dst.now) ≡ s.n = length-part (s.at + s.n - s.at) s.at s.dst.now (omega arith) ∙ run in
    ap (λ zs. put_mid s.at (s.at + s.n - s.at) s.dst.now zs) (c.fill.ensures.after (λ y e. e) ∙ ap (λ m. replicate m 0) long)
    ∙ put-middle s.at s.n (zeros s.n) s.dst.now (length-zeros s.n) (omega arith)
