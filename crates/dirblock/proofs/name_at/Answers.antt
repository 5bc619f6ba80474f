-- `name_at` meets its contract. Assumes nothing.
use borrow.Author.Rules.{rules}
use mathlib.Core.Path.{◌≡◌, ap}
use Prim.Native.Nat.{ℕ, ◌+◌, ◌-◌}
use native.Mathlib.Omega.{arith}
use lib.ListN.{take, drop}
use Rattle.field.specs.Field.{part}
use Rattle.dirblock.specs.Record.{name_at}
use Rattle.dirblock.proofs.name_at.Goals as goal

pub returns : goal.returns
unfolding name_at part
returns c = let a = c.args in let n : a.pos + 8 + a.e.namelen - (a.pos + 8) ≡ a.e.namelen = omega arith in ap (λ (m : ℕ). take m (drop (a.pos + 8) a.block.now)) n
