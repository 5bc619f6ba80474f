-- `field::same_bytes` meets its contract: the bytes passed agree. Assumes nothing.
use borrow.Author.Count.{below_more}
use borrow.Author.Rules.{rules}
use mathlib.Core.Path.{◌≡◌, sym}
use mathlib.Core.Bool.{true, false}
use native.Mathlib.Omega.{arith}
use Prim.Native.Nat.{ℕ}
use Rattle.field.proofs.Laws.{part-is, part_at}
use Rattle.field.proofs.same_bytes.Goals as goal

apart : false ≡ true → ⊥
apart e = let z : ◌≡◌ {A = ℕ} 0 1 = cc in omega arith

pub returns-then-img-at : goal.returns-then-img-at
returns-then-img-at c =
    let s = c.args in record { yes = λ e. absurd (apart e); no = λ e p. c.if-img-at.true (part_at s.at s.src.now s.img.now c.loop-i.i (omega arith) p) }

pub loop-i-preserved : goal.loop-i-preserved
loop-i-preserved c = below_more _ _ c.loop-i.invariant c.if-img-at.false

pub returns : goal.returns
returns c =
    let s = c.args in
    record { yes = λ e. part-is s.at s.src.now s.img.now c.requires (λ i b. c.loop-i.invariant i (omega arith)); no = λ e. absurd (apart (sym e)) }
