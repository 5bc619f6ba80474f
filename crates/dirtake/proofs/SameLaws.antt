-- Answers that meet one promise coincide: what the calls on directories answer follows from what the promise says of it. Assumes nothing.
use Rattle.std.specs.Prelude.{Result, Ok, Err}
use mathlib.Core.Path.{◌≡◌, refl, ap}
use Prim.Native.Nat.{ℕ}
use native.Mathlib.Omega.{arith}
use Rattle.store.specs.Act.{got, refused}
use Rattle.inode_setblock.specs.Set.{written_out}
use Rattle.dirlink.specs.Link.{gone_out}
use Rattle.refusal.specs.declared.Refusal.{Refusal}

pub written-same : (a b : Result (Unit {0}) Refusal) → written_out a ≡ written_out b → a ≡ b
written-same (Ok u) (Ok v) e = refl
written-same (Ok u) (Err f) e = absurd (let z : ◌≡◌ {A = ℕ} 0 1 = cc in let y : ⊥ = omega arith in y)
written-same (Err f) (Ok u) e = absurd (let z : ◌≡◌ {A = ℕ} 0 1 = cc in let y : ⊥ = omega arith in y)
written-same (Err e) (Err f) q = cc

pub gone-same : (a b : Result ℕ Refusal) → gone_out a ≡ gone_out b → a ≡ b
gone-same (Ok i) (Ok j) e = cc
gone-same (Ok i) (Err f) e = absurd (let z : ◌≡◌ {A = ℕ} 0 1 = cc in let y : ⊥ = omega arith in y)
gone-same (Err f) (Ok i) e = absurd (let z : ◌≡◌ {A = ℕ} 0 1 = cc in let y : ⊥ = omega arith in y)
gone-same (Err e) (Err f) q = cc
