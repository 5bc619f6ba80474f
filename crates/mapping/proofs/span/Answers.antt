-- `span` meets its contract: a power of at most 8,192 up to the third does not wrap. Assumes nothing.
use Prim.Native.Nat.{ℕ, zero, suc, ◌^◌, ◌≤◌}
use native.Mathlib.Nat.{pow-zero}
use native.Mathlib.Omega.{arith}
use Rattle.mapping.proofs.ZoneLaws.{pow_one, pow_two, pow_three, square_le, cube_le}
use Rattle.mapping.proofs.span.Goals as goal

top : (p level : ℕ) → p ≤ 8192 → level ≤ 3 → p ^ level ≤ 549755813888
top p zero h l = rw (pow-zero p) (omega arith)
top p (suc zero) h l = rw (← pow_one p) (omega arith)
top p (suc (suc zero)) h l = rw (← pow_two p) (omega (arith, square_le p h))
top p (suc (suc (suc zero))) h l = rw (← pow_three p) (cube_le p h)
top p (suc (suc (suc (suc k)))) h l = absurd (omega arith)

pub pow-requires : goal.pow-requires
pow-requires c = omega (arith, top _ _ c.requires.0 c.requires.1)

pub returns : goal.returns
returns c = (c.pow.ensures, rw c.pow.ensures (top _ _ c.requires.0 c.requires.1))
